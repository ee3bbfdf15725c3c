-- `sheets::tags::look_up` meets its contract: the first step with the tag is the look-up's. Assumes nothing.
use Prim.Native.Nat.{ℕ}
use mathlib.Core.Path.{◌≡◌, subst}
use borrow.Author.Tests.{tests}
use lib.Dec.{ltb}
use Rattle.std.specs.Option.{is_some, unwrap_or}
use Rattle.std.proofs.Common.{rules}
use Rattle.std.proofs.lemmas.Iterator.{first_from_Range}
use Rattle.records.specs.Tags.{tag_at, look_up}
use Rattle.sheets.proofs.TagSearch.{Without, found_is}
use Rattle.sheets.proofs.tags.look_up.Goals as goal

pub returns : goal.returns
returns c =
    let sheet = c.args.sheet.now in
    let tag = c.args.wanted in
    let found = c.find.result in
    let first =
    first_from_Range _ _ _ _ (λ k. tag_at 16 sheet k ≡ tag) (Without 16 sheet tag) c.find.ensures.ran
    (λ x q k. search (rules, tests))
    (λ x q k. (search rules, search (rules, tests))) in
    let is : (unwrap_or found _ ≡ look_up 16 sheet _ tag) × (is_some found ≡ ltb (look_up 16 sheet _ tag) _) =
    subst (λ (n : ℕ). (unwrap_or found n ≡ look_up 16 sheet n tag) × (is_some found ≡ ltb (look_up 16 sheet n tag) n)) c.step_count.ensures
    (found_is 16 sheet _ tag found first) in
    record { step = is.0; found = is.1 }
