-- Laws of settings as values, and of an accepted image's. Assumes nothing.
use Prim.Native.Nat.{ℕ}
use mathlib.Core.Path.{◌≡◌}
use mathlib.Core.List.{List}
use lib.ListN.{length}
use mir.Val.{Val}
use denote.Laws.{Is as Owned}
use denote.Struct.Declared.{row}
use borrow.Author.Tests.{eq-eqb}
use Rattle.image.specs.Reading.{image_verdict, settings_of, reading}
use Rattle.image.specs.declared.Settings.{Settings}
use Rattle.image.specs.contracts.Settings.{the_type}

-- what owning settings tells of their array
pub ten_groups : (settings : Settings) (values : List Val) → Owned (row the_type) settings values → length settings.groups ≡ 10
ten_groups settings values owned = owned.1.1.0.1.0.1

-- an accepted image is answered with its settings
pub settings_read : (image : List ℕ) → (image_verdict image).number ≡ 0 → (reading image).settings ≡ settings_of image
unfolding reading
settings_read image pass = rw (eq-eqb _ _ pass)
