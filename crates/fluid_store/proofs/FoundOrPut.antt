-- One object looked up, and put where nothing was found.
use Rattle.std.proofs.Common.{◌≡◌, ◌⊎◌, inl, inr, ℕ, List, [], ◌∷◌, Option, Some, None, Result, Ok, Err, refl, sym, ap, subst, ◌∙◌, arith}
use Rattle.std.specs.Option.{option_map}
use Rattle.std.specs.FinMap.{get, insert}
use Rattle.fluid_io.specs.Causes.{Tells}
use Rattle.fluid_store.specs.Held.{Held}
use Rattle.fluid_store.specs.Storing.{Storing, IsPut}
use Rattle.fluid_store.specs.Keeping.{Looks, Places, Compares, Adds, AddsPrefix, StoresObject}
use Rattle.fluid_store.specs.declared.listing.StoredObject.{StoredObject}
use Rattle.fluid_store.specs.declared.fault.StoreFault.{StoreFault}
use Rattle.fluid_store.specs.declared.fault.StoreFault.TheVariants.{StoreFailed, Clash, Missing, BadObject, Tree, NoPath, NoMemory}
use Rattle.fluid_store.proofs.Added.{adds_nothing, adds_found, adds_new}

module _ (id bytes : List ℕ) where
  abbrev one : StoredObject
  one = record { id = id; bytes = bytes }

  none_of : (old new : Option Held) → new ≡ old → AddsPrefix (one ∷ []) old new
  none_of old new same = record { prefix = []; behind = one ∷ []; splits = refl; adds = subst (Adds [] old) (sym same) (adds_nothing old) }

  one_of : (old new : Option Held) → Adds (one ∷ []) old new → AddsPrefix (one ∷ []) old new
  one_of old new adds = record { prefix = one ∷ []; behind = []; splits = refl; adds = adds }

  module _ (old mid new : Storing) (looks : Looks id old mid (Ok None)) where
    put_new : IsPut id bytes mid new → Adds (one ∷ []) old.content new.content
    put_new put = adds_new id bytes old.content new.content looks.says (put ∙ ap (option_map (λ held. insert held id bytes)) looks.content)

    perhaps : (new.content ≡ mid.content) ⊎ IsPut id bytes mid new → AddsPrefix (one ∷ []) old.content new.content
    perhaps (inl same) = none_of old.content new.content (same ∙ looks.content)
    perhaps (inr put) = one_of old.content new.content (put_new put)

    pub placed : (r : Result (Unit {0}) StoreFault) → Places id bytes mid new r → StoresObject one old new r
    placed (Ok done) p = record { stores = put_new p.does; memory = λ e. cc }
    placed (Err (StoreFailed note)) p = record {
      stores = (record { before = omega (arith, looks.later, p.does.0.before); after = p.does.0.after; rose = p.does.0.rose }, perhaps p.does.1);
      memory = λ e. cc;
    }
    placed (Err (Clash other kept more)) p = absurd p.does
    placed (Err (Missing other)) p = absurd p.does
    placed (Err (BadObject other place)) p = absurd p.does
    placed (Err (Tree fault)) p = absurd p.does
    placed (Err (NoPath path)) p = absurd p.does
    placed (Err NoMemory) p = record { stores = none_of old.content new.content (p.does ∙ looks.content); memory = λ e. p.does ∙ looks.content }

  module _ (old new : Storing) (kept : List ℕ) (looks : Looks id old new (Ok (Some kept))) where
    told : (content now : Option Held) → now ≡ content → Tells content (λ held. Some kept ≡ get held id) → Tells now (λ held. get held id ≡ Some kept)
    told None now e h = subst (λ c. Tells c (λ held. get held id ≡ Some kept)) (sym e) tt
    told (Some held) now e h = subst (λ c. Tells c (λ held. get held id ≡ Some kept)) (sym e) (sym h)

    found : kept ≡ bytes → Adds (one ∷ []) old.content new.content
    found same = subst (Adds (one ∷ []) old.content) (sym looks.content) (adds_found id bytes old.content (subst (λ b. Tells old.content (λ held. Some b ≡ get held id)) same looks.says))

    pub compared : (r : Result (Unit {0}) StoreFault) → Compares id kept bytes r → StoresObject one old new r
    compared (Ok done) same = record { stores = found same; memory = λ e. cc }
    compared (Err (StoreFailed note)) h = absurd h
    compared (Err (Clash other was is)) h = record {
      stores = record {
        prefix = [];
        behind = [];
        splits = let same : one ≡ record { id = other; bytes = is } = cc in ap (λ o. o ∷ []) same;
        adds = subst (Adds [] old.content) (sym looks.content) (adds_nothing old.content);
        was = subst (λ i. Tells new.content (λ held. get held i ≡ Some was)) (sym h.0) (subst (λ b. Tells new.content (λ held. get held id ≡ Some b)) (sym h.1.0) (told old.content new.content looks.content looks.says));
        differ = λ e. h.1.1.1 (sym h.1.0 ∙ e ∙ h.1.1.0);
      };
      memory = λ e. cc;
    }
    compared (Err (Missing other)) h = absurd h
    compared (Err (BadObject other place)) h = absurd h
    compared (Err (Tree fault)) h = absurd h
    compared (Err (NoPath path)) h = absurd h
    compared (Err NoMemory) h = record { stores = none_of old.content new.content looks.content; memory = λ e. looks.content }
