-- What is promised of a site kept in an image, proved.
use Rattle.promise_site.specs.Promise.{SitePromise}
use Rattle.promise_site.proofs.Site.{kept_site}

pub site_promise : SitePromise
site_promise = record { kept_site = kept_site }
