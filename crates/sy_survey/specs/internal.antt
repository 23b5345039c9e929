pub mod SiteTexts
