-- Documents that are closed one after another.
use Rattle.std.proofs.Common.{◌≡◌, ◌⊎◌, inl, inr, ℕ, ◌≤◌, Bool, true, false, cond, ◌||◌, List, [], ◌∷◌, ◌++◌, map, Option, None, is_some, refl, sym, ap, subst, ◌∙◌, arith, bytes_eq}
use Rattle.std.specs.FinMap.{get}
use Rattle.std.proofs.lemmas.Bool.{false≢true}
use Rattle.fluid_table.proofs.Places.{get_removed}
use Rattle.fluid_rules.proofs.Ids.{own_id, same_id}
use Rattle.fluid_log.specs.Shelving.{Shelving}
use Rattle.fluid_opening.specs.declared.shelf.ShelfStep.{ShelfStep}
use Rattle.fluid_service.specs.declared.terms.ShelfTerms.{ShelfTerms}
use Rattle.fluid_service.specs.Visiting.{Visiting, name_of, is_among}
use Rattle.fluid_service.specs.Shelved.{Shelved, terms_of, shelf_terms, AllServed, AreDistinct, IsShelf, ShelfStands}
use Rattle.fluid_service.specs.Keys.{Serving}
use Rattle.fluid_service.specs.Closing.{ComesBackFrom, Closes, AreOut, AreOnly, KeeperComesBack, LastGoes, OneGoes}
use Rattle.fluid_service.proofs.Named.{names_push, open_push, distinct_init, served_init}
use Rattle.fluid_service.proofs.Carrying.{kept_back, told_back}
use Rattle.fluid_service.proofs.Standings.{open_is}

or_true : (a b : Bool) → b ≡ true → (a || b) ≡ true
or_true true b is = refl
or_true false b is = is

true_or : (a b : Bool) → a ≡ true → (a || b) ≡ true
true_or true b is = refl
true_or false b is = absurd (false≢true is)

-- the keepers of a shelf
pub shelf_out : (s : Shelved) → IsShelf s → AreOut s.shelving s.visits
shelf_out s shelf = record {
  out = λ name open_. shelf.out name ∙ open_;
  distinct = shelf.distinct;
  limits = s.limits;
  served = shelf.served;
  kept = shelf.kept;
}

-- the last one is out
pub last_out : (s : Shelving) (visits rest : List Visiting) (visit : Visiting) (name : List ℕ) → AreOut s visits → visits ≡ rest ++ visit ∷ [] → name ≡ name_of visit → is_some (get s.out name) ≡ true
last_out s visits rest visit name out last named =
    out.out name (ap (λ l. is_among name (map name_of l)) last ∙ open_push name rest visit ∙ or_true (is_among name (map name_of rest)) (bytes_eq name (name_of visit)) (ap (bytes_eq name) (sym named) ∙ own_id name))

-- ---- some have gone

pub record HasClosed (visits rest : List Visiting) (old new : Shelving) : Type 0 where
  pub out : AreOut new rest
  pub only : AreOnly new visits
  pub told : is_some new.held ≡ is_some old.held
  pub later : old.faults ≤ new.faults

pub at_first : (visits : List Visiting) (old : Shelving) → AreOut old visits → AreOnly old visits → HasClosed visits visits old old
at_first visits old out only = record { out = out; only = only; told = refl; later = omega arith }

removed_other : {A : Type 0} (b : Bool) (o : Option A) → b ≡ false → is_some o ≡ true → is_some (cond b None o) ≡ true
removed_other true o other is = absurd (false≢true (sym other))
removed_other false o other is = is

removed_some : {A : Type 0} (b : Bool) (o : Option A) → is_some (cond b None o) ≡ true → is_some o ≡ true
removed_some true o is = absurd (false≢true is)
removed_some false o is = is

not_own : (name own : List ℕ) (names : List (List ℕ)) → is_among own names ≡ false → is_among name names ≡ true → (b : Bool) → bytes_eq name own ≡ b → bytes_eq name own ≡ false
not_own name own names absent there true same = absurd (false≢true (sym absent ∙ ap (λ n. is_among n names) (sym (same_id name own same)) ∙ there))
not_own name own names absent there false other = other

module _ (visits rest now : List Visiting) (old new last : Shelving) (h : HasClosed visits rest old new) (goes : LastGoes rest now new last) where
  distinct_now : AreDistinct (map name_of now) × (is_among (name_of goes.visit) (map name_of now) ≡ false)
  distinct_now = distinct_init (map name_of now) (name_of goes.visit) (subst AreDistinct (ap (map name_of) goes.last ∙ names_push now goes.visit) h.out.distinct)

  among_rest : (name : List ℕ) → is_among name (map name_of now) ≡ true → is_among name (map name_of rest) ≡ true
  among_rest name there = ap (λ l. is_among name (map name_of l)) goes.last ∙ open_push name now goes.visit ∙ true_or (is_among name (map name_of now)) (bytes_eq name (name_of goes.visit)) there

  served_now : AllServed (shelf_terms new h.out.limits) now
  served_now = (served_init (shelf_terms new h.out.limits) now goes.visit (subst (AllServed (shelf_terms new h.out.limits)) goes.last h.out.served)).0

  by_goes : (last ≡ new) ⊎ KeeperComesBack (name_of goes.visit) new last → HasClosed visits now old last
  by_goes (inl same) = subst (HasClosed visits now old) (sym same) (record {
    out = record { out = λ name there. h.out.out name (among_rest name there); distinct = distinct_now.0; limits = h.out.limits; served = served_now; kept = h.out.kept };
    only = h.only;
    told = h.told;
    later = h.later;
  })
  by_goes (inr back) =
      let told = told_back (name_of goes.visit) new last back.keeper back.back in
      let at = λ (name : List ℕ). ap (λ out. get out name) back.back.out ∙ get_removed new.out (name_of goes.visit) name in record {
        out = record {
          out = λ name there.
              ap is_some (at name) ∙ removed_other (bytes_eq name (name_of goes.visit)) (get new.out name) (not_own name (name_of goes.visit) (map name_of now) distinct_now.1 there (bytes_eq name (name_of goes.visit)) refl) (h.out.out name (among_rest name there));
          distinct = distinct_now.0;
          limits = h.out.limits;
          served = subst (λ (b : Bool). AllServed (record { limits = h.out.limits; told = b }) now) (sym told) served_now;
          kept = kept_back (name_of goes.visit) new last back.keeper h.out.kept back.back back.kept;
        };
        only = λ name out. h.only name (removed_some (bytes_eq name (name_of goes.visit)) (get new.out name) (sym (ap is_some (at name)) ∙ out));
        told = told ∙ h.told;
        later = omega (arith, h.later, back.back.later);
      }

  pub last_gone : HasClosed visits now old last
  last_gone = by_goes goes.goes

pub one_gone : (visits rest now : List Visiting) (old new last : Shelving) → HasClosed visits rest old new → OneGoes rest now new last → HasClosed visits now old last
one_gone visits rest now old new last h (inl none) = subst (HasClosed visits now old) (sym none.1.1) (subst (λ l. HasClosed visits l old new) (sym none.1.0) h)
one_gone visits rest now old new last h (inr goes) = last_gone visits rest now old new last h goes

pub at_last : (visits rest : List Visiting) (old new : Shelving) → HasClosed visits rest old new → ComesBackFrom visits old new
at_last visits rest old new h = record { out = h.only; kept = h.out.kept; told = h.told; later = h.later }

-- ---- a service

pub closes_by : (service : Serving) (s : Shelved) (l : List ShelfStep) (new : Shelving) → ShelfStands s l → terms_of s ≡ service.fixed → ComesBackFrom s.visits s.shelving new → Closes service new
closes_by service s l new stands fixed back = record {
  steps = l;
  few = stands.few;
  out = λ name out. sym (open_is s l name stands) ∙ back.out name out;
  kept = back.kept;
  told = back.told ∙ ap (λ (t : ShelfTerms). t.told) fixed;
}
