-- What holds of the site that was read holds of each that its texts describe.
use Rattle.std.proofs.Common.{◌≡◌, ℕ, List, subst}
use Rattle.sy_site.specs.Sites.{Site}
use Rattle.sy_site.specs.texts.Describes.{Describes, File}

pub each_described : (P : Site → Type 0) {text : List ℕ} {files : List File}
    → ((text : List ℕ) (files : List File) (a b : Site) → Describes text files a → Describes text files b → a ≡ b)
    → (here : Site) → Describes text files here → P here → (site : Site) → Describes text files site → P site
each_described P {text} {files} one here is holds site described = subst P (one text files here site is described) holds
