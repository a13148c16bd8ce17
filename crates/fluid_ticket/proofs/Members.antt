-- The members of answers stand in byte order of their names.
use Rattle.std.proofs.Common.{[], ◌∷◌, refl}
use Rattle.fluid_json.specs.Tree.{Tree, members, AreAscending}
use Rattle.fluid_types.specs.Printed.{row}
use Rattle.fluid_types.specs.Texts.{name_of}
use Rattle.fluid_types.specs.declared.fault.Field.TheVariants as field

pub ack_keys : (handle proposal : Tree) → AreAscending (members (row field.Handle handle ∷ row field.SummaryProposal proposal ∷ []))
unfolding name_of
ack_keys handle proposal = ((refl, tt), (tt, tt))

pub record RefusalKeys (code message proposal : Tree) : Type 0 where
  pub first : AreAscending (members (row field.Code code ∷ row field.Message message ∷ []))
  pub all : AreAscending (members (row field.Code code ∷ row field.Message message ∷ row field.SummaryProposal proposal ∷ []))

pub refusal_keys : (code message proposal : Tree) → RefusalKeys code message proposal
unfolding name_of
refusal_keys code message proposal = record { first = ((refl, tt), (tt, tt)); all = ((refl, (refl, tt)), ((refl, tt), (tt, tt))) }
