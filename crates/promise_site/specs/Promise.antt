-- Demand 3 over the entries that C calls. proofs/Proved.antt proves `SitePromise`.
use Rattle.std.specs.Prelude.{◌≡◌, List, ℕ, length}
use Rattle.image.specs.Image.{image_bytes, fresh_left}
use Rattle.promise_site.specs.Site.{Call, KeptSite}

pub record SitePromise : Type 0 where
  -- A site kept in an image, from a fresh one on: however records and files are handed to it, call after call, it is the offering of
  -- them all, of which demand 3 speaks.
  pub kept_site : (buffer : List ℕ) → length buffer ≡ image_bytes → (calls : List Call) → KeptSite (fresh_left buffer) calls
