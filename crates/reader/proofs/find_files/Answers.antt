-- a refusal before the files stands, and no file is read; else a refusal of theirs, or the counts
use mathlib.Core.Path.{ap}
use native.Mathlib.Omega.{arith}
use Rattle.verdict.specs.Shown.{shown}
use Rattle.verdict.proofs.PassedOn.{passed_on}
use Rattle.encoding.specs.ByteLaws.{lent_bytes}
use Rattle.claims.specs.ClaimWalk.{claim_as_read}
use Rattle.reader.specs.FilesLaws.{first_unread, first_passed}
use Rattle.reader.proofs.FilesLaws.{few_read}
use Rattle.reader.proofs.find_files.Goals as goal

pub returns-in_err-before : goal.returns-in_err-before
returns-in_err-before c =
    record {
      told = rw (passed_on _ c.from_residual.ensures.1) (first_unread _ _ (ap shown c.in_err-before.was) (omega arith, omega arith));
      claim_bytes_lem = lent_bytes _ c.type_inv.claim;
      proof_bytes_lem = lent_bytes _ c.type_inv.proof;
    }

pub read_beside-requires : goal.read_beside-requires
read_beside-requires c =
    (λ n is. few_read _ (lent_bytes _ c.type_inv.claim) (claim_as_read _ _ _ _ _ c.read_formed-formed.ensures is), c.requires.1)

pub returns : goal.returns
returns c =
    record {
      told = first_passed _ _ (ap shown c.in_ok-before.was) _ _ _ _ _ _ _ (c.read_beside.ensures _ _ _ _ _ c.read_formed-formed.ensures);
      claim_bytes_lem = lent_bytes _ c.type_inv.claim;
      proof_bytes_lem = lent_bytes _ c.type_inv.proof;
    }
