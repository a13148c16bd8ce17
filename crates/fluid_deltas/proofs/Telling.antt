-- Facts on what a keeper tells.
use Rattle.std.proofs.Common.{◌≡◌, Option, Some, None, subst}
use Rattle.std.specs.Option.{option_map}
use Rattle.fluid_io.specs.Causes.{Tells}

module _ {A : Type 0} where
  pub tells_each : (told : Option A) (P : A → Type 0) → ((a : A) → P a) → Tells told P
  tells_each None P each = tt
  tells_each (Some a) P each = each a

  pub tells_from : (told : Option A) (P Q : A → Type 0) → ((a : A) → P a → Q a) → Tells told P → Tells told Q
  tells_from None P Q from p = tt
  tells_from (Some a) P Q from p = from a p

  pub tells_both : (told : Option A) (P Q R : A → Type 0) → ((a : A) → P a → Q a → R a) → Tells told P → Tells told Q → Tells told R
  tells_both None P Q R from p q = tt
  tells_both (Some a) P Q R from p q = from a p q

  pub tells_along : (one other : Option A) (P : A → Type 0) → one ≡ other → Tells one P → Tells other P
  tells_along one other P same p = subst (λ told. Tells told P) same p

pub tells_becomes : {A : Type 0} (told : Option A) (change : A → A) (P Q : A → Type 0) → ((a : A) → P a → Q (change a)) → Tells told P → Tells (option_map change told) Q
tells_becomes None change P Q from p = tt
tells_becomes (Some a) change P Q from p = from a p
