-- The blank image. Assumes nothing.
use Rattle.std.specs.Prelude.{ℕ, List, replicate}

-- "The blank image is eighty zero bytes"
unfoldable pub blank_image : List ℕ
blank_image = replicate 80 0
