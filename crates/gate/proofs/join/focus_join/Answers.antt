-- what the answer promises follows from its number and from what was laid down
use Rattle.encoding.specs.ByteLaws.{lent_bytes}
use Rattle.demands.proofs.JoinCall.{join_call}
use Rattle.gate.proofs.join.focus_join.Goals as goal

pub returns : goal.returns
returns c =
    let joined = c.join_files.ensures in
    join_call _ _ _ _ _ (lent_bytes _ c.type_inv.claim1) (lent_bytes _ c.type_inv.proof1) (lent_bytes _ c.type_inv.claim2)
    (lent_bytes _ c.type_inv.proof2) _ _ _ _ _ joined.answer joined.claim_laid joined.proof_laid
