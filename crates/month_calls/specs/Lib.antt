pub mod MonthCalls
