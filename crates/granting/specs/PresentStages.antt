-- presenting, stage by stage: what stands before the files, and the state that a verdict leaves
use Rattle.std.specs.Prelude.{◌≡◌, ◌||◌, ℕ, ◌<◌, ◌≤◌, ltb}
use Rattle.std.proofs.Math.Path.{refl}
use Rattle.std.proofs.Common.{◌∙◌, lt-ltb, le-ltb}
use Rattle.std.proofs.Math.Bool.{or-true}
use Rattle.verdict.specs.Verdict.{Verdict, accepted, refused, pick, packed, Within}
use Rattle.permit.specs.GateState.{Gate, closed, opened, holding}
use Rattle.permit.specs.declared.State.{State}
use Rattle.permit.specs.declared.Numbered.{Numbered}

-- 50 closed; 51 permit held; 1 a slice under 256 entries, 1,024 nodes or 24,576 codes
unfoldable pub stands_before_lem : Gate → ℕ → ℕ → ℕ → Verdict
stands_before_lem closed entries nodes codes = refused 50 0
stands_before_lem opened entries nodes codes = pick (ltb entries 256 || (ltb nodes 1024 || ltb codes 24576)) (refused 1 0) accepted
stands_before_lem (holding tag) entries nodes codes = refused 51 0

-- "on acceptance it holds that tag"; a refusal leaves the numbers that were lent
abbrev pub settled_state : Verdict → ℕ → State → State
settled_state accepted tag s = record { phase = 2; tag = tag }
settled_state (refused n q) tag s = s

pub record Settled (s : State) (tag : ℕ) (v : Verdict) (r : Numbered ℕ) : Type 0 where
  pub answer : r.answer ≡ packed v
  pub within : Within 65536 v
  pub state : r.state ≡ settled_state v tag s

module _ (entries nodes codes : ℕ) where
  pub stands_closed : {g : Gate} → g ≡ closed → stands_before_lem g entries nodes codes ≡ refused 50 0
  unfolding stands_before_lem
  stands_closed e = rw e refl

  pub stands_holding : {g : Gate} {tag : ℕ} → g ≡ holding tag → stands_before_lem g entries nodes codes ≡ refused 51 0
  unfolding stands_before_lem
  stands_holding e = rw e refl

  -- the slices that an open gate is lent
  module _ {g : Gate} (e : g ≡ opened) where
    by_lengths : stands_before_lem g entries nodes codes ≡ pick (ltb entries 256 || (ltb nodes 1024 || ltb codes 24576)) (refused 1 0) accepted
    unfolding stands_before_lem
    by_lengths = rw e refl

    pub few_entries : entries < 256 → stands_before_lem g entries nodes codes ≡ refused 1 0
    few_entries h = by_lengths ∙ rw (lt-ltb entries 256 h) refl

    pub few_nodes : nodes < 1024 → stands_before_lem g entries nodes codes ≡ refused 1 0
    few_nodes h = by_lengths ∙ rw (lt-ltb nodes 1024 h, or-true (ltb entries 256)) refl

    pub few_codes : codes < 24576 → stands_before_lem g entries nodes codes ≡ refused 1 0
    few_codes h = by_lengths ∙ rw (lt-ltb codes 24576 h, or-true (ltb nodes 1024), or-true (ltb entries 256)) refl

    pub nothing_stands : 256 ≤ entries → 1024 ≤ nodes → 24576 ≤ codes → stands_before_lem g entries nodes codes ≡ accepted
    nothing_stands h k l = by_lengths ∙ rw (le-ltb entries 256 h, le-ltb nodes 1024 k, le-ltb codes 24576 l) refl
