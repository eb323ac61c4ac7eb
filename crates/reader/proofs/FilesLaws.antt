-- what is read of a claim has few entries, goals and members
use Rattle.std.specs.Prelude.{List, ℕ, length}
use Rattle.std.proofs.Common.{sym, ap, ◌∙◌}
use Rattle.encoding.specs.Encode.{Bytes}
use Rattle.formula.specs.Claim.{Form, Claim}
use Rattle.formula.specs.Held.{goals_of_length}
use Rattle.claims.specs.ClaimWalk.{ClaimGot}
use Rattle.reader.specs.Files.{read_formed_lem}
use Rattle.reader.specs.Found.{FewRead}
use Rattle.reader.specs.FormedLaws.{one_goal_lem}
use Rattle.reader.specs.FilesExact.{formed_exactly}

-- the form of a claim that was read, and that its entries and goals are few
pub few_read : (claim : List ℕ) → Bytes claim → {ks xs ys gs ms : List ℕ} {f n k : ℕ} → ClaimGot (read_formed_lem claim) ks xs ys gs ms f n k → FewRead f n k
few_read claim b {gs = gs} {ms = ms} {k = k} g = record {
  form = g.claim.form;
  number = sym g.form;
  entries = g.held.entries;
  goals = g.held.goals.few;
  one = λ e. sym (goals_of_length gs ms k) ∙ ap (λ (c : Claim). length c.goals) g.held.same ∙ one_goal_lem ((formed_exactly claim b).given g.claim g.was) e;
}

-- then the proof
module _ (claim proof : List ℕ) where
  module _ {ks xs ys gs ms : List ℕ} {f n k : ℕ} (g : ClaimGot (read_formed_lem claim) ks xs ys gs ms f n k) where
    abbrev form : Form
    form = g.claim.form
