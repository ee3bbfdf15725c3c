-- `writing::codes::lookup` meets its contract: the library's search finds the lowest place. Assumes nothing.
use Rattle.std.proofs.Common.{rules, tests, ◌≡◌, ◌∙◌}
use Rattle.std.proofs.lemmas.Iterator.{YieldsList-from_slice}
use Rattle.std.proofs.lemmas.Iterator.Search.{position_from_yields_List}
use Rattle.writing.proofs.CodeLaws.{equals, lookup_found}
use Rattle.writing.proofs.codes.lookup.Goals as goal

pub returns : goal.returns
returns c =
    let table = c.args.table.now in
    let same : c.map.result ≡ c.position.result = search rules in
    same
    ∙ position_from_yields_List (equals c.args.value) _ _ c.position.result c.position.ensures.ran (YieldsList-from_slice table cc) (λ x b q k. search (rules, tests))
    ∙ lookup_found table c.args.value
