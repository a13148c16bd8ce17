use Rattle.std.proofs.Common.{◌≡◌, ℕ, sym, ap, ◌∙◌, get_or, refl, arith}
use Rattle.fluid_types.specs.Texts.{name_of}
use Rattle.fluid_types.specs.declared.fault.Field.TheVariants as field
use Rattle.fluid_codec.proofs.forms.contents_and_metadata.Goals as goal

first_letters : (c m : ℕ) → c ≡ 99 → m ≡ 109 → c ≡ m → ⊥
first_letters c m p q e = omega arith

-- the two names begin with different letters
names_differ : name_of field.Contents ≡ name_of field.Metadata → ⊥
unfolding name_of
names_differ same = first_letters 99 109 refl refl (ap (λ s. get_or s 0 0) same)

pub into_members-contents-requires : goal.into_members-contents-requires
into_members-contents-requires c = λ same. names_differ (sym c.name.ensures ∙ same ∙ c.name-2.ensures)
