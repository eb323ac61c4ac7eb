-- each kind below 4 has its own word
use native.Mathlib.Omega.{arith}
use Rattle.forming.specs.Ready.{word_false, word_true, word_letter, word_negated}
use Rattle.forming.proofs.leaf_word.Goals as goal

pub returns-in-0 : goal.returns-in-0
returns-in-0 c = word_false _ _ _ _ c.in-0.is

pub returns-in-1 : goal.returns-in-1
returns-in-1 c = word_true _ _ _ _ _ c.in-1.is c.all_states.ensures

pub returns-in-2 : goal.returns-in-2
returns-in-2 c = word_letter _ _ _ _ _ c.in-2.is c.letter_word.ensures

pub returns-in_default : goal.returns-in_default
returns-in_default c = word_negated _ _ _ _ _ (omega arith) c.letter_word-in_default.ensures
