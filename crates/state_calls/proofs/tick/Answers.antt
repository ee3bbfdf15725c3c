-- `state_calls::tick` meets its contract: a refusal gives back the state that the bytes hold, and the next state is read back from them. Assumes nothing.
use Rattle.std.proofs.Common.{rules}
use Rattle.state_calls.proofs.StateCallLaws.{refused_on, answered_on}
use Rattle.state_calls.proofs.tick.Goals as goal

pub returns-in_err-shown-clause-value : goal.returns-in_err-shown-clause-value
returns-in_err-shown-clause-value g c =
    refused_on _ _ _ _ (search rules) (search rules) (search rules) c.in_err-shown.ensures

pub returns-clause-value : goal.returns-clause-value
returns-clause-value g c =
    answered_on _ _ _ _ (search rules) (search rules) (search rules) (λ i. (c.type_inv.state i).fits) c.in_ok-shown.ensures
