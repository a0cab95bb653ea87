pub mod Uncertainty
