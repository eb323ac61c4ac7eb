-- two files that were read, in the program's columns
use Rattle.formula.specs.Claim.{Form, Claim, Derivation}
use Rattle.formula.specs.Columned.{entries}
use Rattle.formula.specs.declared.EntryColumns.{EntryColumns}
use Rattle.goals.specs.Columned.{claim_in}
use Rattle.laid.specs.Readable.{Readable, proof_at}
use Rattle.laid.specs.declared.ReadProof.{ReadProof}

abbrev pub ReadableIn : EntryColumns → ReadProof → Type 0
ReadableIn t p = Readable t.kinds.now t.a.now t.b.now t.count p.goals.bounds.now p.goals.members.now p.goals.count p.goals.roots.now p.bytes.now p.at p.nodes

-- the claim, of which the form alone is not held
abbrev pub claim_read : EntryColumns → ReadProof → Form → Claim
claim_read t p f = claim_in f (entries t) p.goals

abbrev pub proof_read : ReadProof → Derivation
proof_read p = proof_at p.bytes.now p.at p.goals.roots.now p.goals.count
