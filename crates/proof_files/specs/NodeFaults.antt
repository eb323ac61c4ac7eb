-- where the fields of a node begin and end
use Rattle.std.specs.Prelude.{ℕ, ◌+◌}
use Rattle.bits.specs.IfSet.{if_set_lem}
use Rattle.formula.specs.Fields.{has_principal_lem, has_first_lem, has_second_lem, has_back_lem}
use Rattle.encoding.specs.Widths.{Takes, seq_takes}
use Rattle.encoding.specs.FieldLaws.{field_takes}
use Rattle.proof_files.specs.ReadProof.{early, fields}

pub fields_take : (r : ℕ) → Takes early (fields r) (if_set_lem (has_principal_lem r) 2 + (if_set_lem (has_first_lem r) 2 + (if_set_lem (has_second_lem r) 2 + if_set_lem (has_back_lem r) 2)))
fields_take r =
    seq_takes (field_takes early (has_principal_lem r))
    (λ _. seq_takes (field_takes early (has_first_lem r)) (λ _. seq_takes (field_takes early (has_second_lem r)) (λ _. field_takes early (has_back_lem r))))
