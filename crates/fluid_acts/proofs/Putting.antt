-- An object that is put: what is held under its id is kept, or it stands there then.
use Rattle.std.proofs.Common.{◌≡◌, ◌≢◌, ◌⊎◌, inl, inr, ℕ, Bool, true, false, cond, List, [], ◌∷◌, ◌++◌, length, Option, Some, None, Ok, Err, option_map, bytes_eq, refl, sym, ap, subst, ◌∙◌, arith}
use Rattle.std.specs.Prelude.{if◌then◌else◌}
use Rattle.std.specs.FinMap.{get, insert}
use Rattle.std.proofs.lemmas.Slice.Eq.{bytes_eq-Decides}
use Rattle.sha1.specs.Sha1.{sha1}
use Rattle.fluid_io.specs.Causes.{Tells}
use Rattle.fluid_table.proofs.Places.{get_inserted, get_own, same_values}
use Rattle.fluid_store.specs.Held.{Held, Keeps}
use Rattle.fluid_store.specs.Storing.{Storing}
use Rattle.fluid_store.specs.Keeping.{Adds, Clashes, StoresObject, Counts, with_all}
use Rattle.fluid_store.specs.declared.listing.StoredObject.{StoredObject}
use Rattle.fluid_store.specs.declared.fault.StoreFault.{StoreFault}
use Rattle.fluid_store.specs.declared.fault.StoreFault.TheVariants as store
use Rattle.fluid_codec.specs.declared.replies.Reply.TheVariants.{Stored}
use Rattle.fluid_voice.specs.declared.actions.Act.TheVariants as act
use Rattle.fluid_voice.specs.declared.ends.ActEnd.TheVariants.{Given}
use Rattle.fluid_voice.specs.Ends.{put_under, held_with, held_behind}
use Rattle.fluid_voice.specs.Ends.Outcome.{ends, clashes}
use Rattle.fluid_ends.specs.declared.fault.TalkFault.TheVariants.{Store}
use Rattle.fluid_ends.specs.Faults.{of_store}
use Rattle.fluid_acts.specs.Parts.{DoesOnStore}

some_same : {A : Type 0} (a b : A) → ◌≡◌ {A = Option A} (Some a) (Some b) → a ≡ b
some_same a b same = cc

-- what stands under its key already is put for nothing
put_again : (held : Held) (id bytes : List ℕ) → get held id ≡ Some bytes → insert held id bytes ≡ held
put_again held id bytes there = same_values (insert held id bytes) held (λ q. get_inserted held id bytes q ∙ as_it_was (bytes_eq q id) (get held q) (λ same. ap (get held) ((bytes_eq-Decides q id).0 same) ∙ there))
  where
    as_it_was : (b : Bool) (found : Option (List ℕ)) → (b ≡ true → found ≡ Some bytes) → cond b (Some bytes) found ≡ found
    as_it_was true found is = sym (is refl)
    as_it_was false found is = refl

module _ (bytes : List ℕ) where
  abbrev object : StoredObject
  object = record { id = sha1 bytes; bytes = bytes }

  -- what was held under the id is the same
  kept_same : (held : Held) (kept : List ℕ) → Keeps held (insert held (sha1 bytes) bytes) → get held (sha1 bytes) ≡ Some kept → kept ≡ bytes
  kept_same held kept keeps there = some_same kept bytes (sym (keeps (sha1 bytes) kept there) ∙ get_own held (sha1 bytes) bytes)

  held_so : (held : Held) (found : Option (List ℕ)) → get held (sha1 bytes) ≡ found → Keeps held (insert held (sha1 bytes) bytes) → insert held (sha1 bytes) bytes ≡ held_with held bytes found
  held_so held None is keeps = refl
  held_so held (Some kept) is keeps = put_again held (sha1 bytes) bytes (is ∙ ap Some (kept_same held kept keeps is))

  behind : (old : Option Held) → Tells old (λ held. Keeps held (insert held (sha1 bytes) bytes)) → option_map (λ held. insert held (sha1 bytes) bytes) old ≡ option_map (λ held. held_behind held (act.PutObject bytes)) old
  behind None keeps = refl
  behind (Some held) keeps = ap Some (held_so held (get held (sha1 bytes)) refl keeps)

  added : (old new : Option Held) → Adds (object ∷ []) old new → new ≡ option_map (λ held. held_behind held (act.PutObject bytes)) old
  added old new adds = adds.content ∙ behind old adds.kept

  -- where it is told what is held, the answer is the definition's
  stored_by : (held : Held) (found : Option (List ℕ)) → get held (sha1 bytes) ≡ found → Keeps held (insert held (sha1 bytes) bytes) → put_under (sha1 bytes) bytes found ≡ ends (Given (Stored (sha1 bytes)))
  stored_by held None is keeps = refl
  stored_by held (Some kept) is keeps =
      ap (λ b. if b then ends (Given (Stored (sha1 bytes))) else clashes (sha1 bytes) kept bytes) ((bytes_eq-Decides kept bytes).1 (kept_same held kept keeps is))

  told : (P : Held → Type 0) (old : Option Held) (held : Held) → old ≡ Some held → Tells old P → P held
  told P old held is tells = subst (λ o. Tells o P) is tells

  pub put_ok : (id : List ℕ) (old new : Storing) → id ≡ sha1 bytes → Counts old new → StoresObject {A = List ℕ} object old new (Ok id) → DoesOnStore (act.PutObject bytes) old new (Ok (Given (Stored id)))
  put_ok id old new is counts does = subst (λ i. DoesOnStore (act.PutObject bytes) old new (Ok (Given (Stored i)))) (sym is) (record {
    store = record { holds = added old.content new.content does.stores; later = counts.faults; untouched = λ asked. absurd (true_false asked) };
    end = λ limits l held is_told. stored_by held (get held (sha1 bytes)) refl (told (λ h. Keeps h (insert h (sha1 bytes) bytes)) old.content held is_told does.stores.kept);
    suits = refl;
    cause = tt;
  })
    where
      true_false : true ≡ false → ⊥
      true_false same = cc

  -- ---- faults

  same_content : (old : Option Held) → option_map (λ held. with_all held []) old ≡ old
  same_content None = refl
  same_content (Some held) = refl

  no_more : {A : Type 0} (x y : A) (xs ys : List A) → (x ∷ []) ≡ (y ∷ ys) → (x ≡ y) × (ys ≡ [])
  no_more x y xs ys same = (cc, cc)

  prefix_added : (old new : Option Held) → (prefix behind : List StoredObject) → object ∷ [] ≡ prefix ++ behind → Adds prefix old new
      → (new ≡ old) ⊎ (new ≡ option_map (λ held. held_behind held (act.PutObject bytes)) old)
  prefix_added old new [] rest splits adds = inl (adds.content ∙ same_content old)
  prefix_added old new (o ∷ []) rest splits adds = inr (added old new (subst (λ x. Adds (x ∷ []) old new) (sym (first_is o rest splits)) adds))
    where
      first_is : (o : StoredObject) (rest : List StoredObject) → object ∷ [] ≡ o ∷ rest → object ≡ o
      first_is o rest same = cc
  prefix_added old new (o ∷ p ∷ more) rest splits adds = absurd (too_long (ap length splits))
    where
      too_long : length (object ∷ []) ≡ length (o ∷ p ∷ (more ++ rest)) → ⊥
      too_long same = omega (arith, same)

  -- other bytes are held under its id, and nothing was put
  clash_at : (old new : Option Held) (id kept new_bytes : List ℕ) (prefix behind : List StoredObject) → object ∷ [] ≡ prefix ++ (record { id = id; bytes = new_bytes } ∷ behind) → Adds prefix old new
      → (new ≡ old) × ((id ≡ sha1 bytes) × (new_bytes ≡ bytes))
  clash_at old new id kept new_bytes [] rest splits adds = (adds.content ∙ same_content old, (ids (first_is splits), texts (first_is splits)))
    where
      first_is : object ∷ [] ≡ record { id = id; bytes = new_bytes } ∷ rest → ◌≡◌ {A = StoredObject} object (record { id = id; bytes = new_bytes })
      first_is same = cc

      ids : ◌≡◌ {A = StoredObject} object (record { id = id; bytes = new_bytes }) → id ≡ sha1 bytes
      ids same = sym (ap (λ (o : StoredObject). o.id) same)

      texts : ◌≡◌ {A = StoredObject} object (record { id = id; bytes = new_bytes }) → new_bytes ≡ bytes
      texts same = sym (ap (λ (o : StoredObject). o.bytes) same)
  clash_at old new id kept new_bytes (o ∷ prefix) rest splits adds = absurd (too_long prefix (ap length splits))
    where
      too_long : (prefix : List StoredObject) → length (object ∷ []) ≡ length (o ∷ (prefix ++ (record { id = id; bytes = new_bytes } ∷ rest))) → ⊥
      too_long [] same = omega (arith, same)
      too_long (p ∷ prefix) same = omega (arith, same)

  clashed_by : (held : Held) (kept : List ℕ) → get held (sha1 bytes) ≡ Some kept → kept ≢ bytes → put_under (sha1 bytes) bytes (get held (sha1 bytes)) ≡ clashes (sha1 bytes) kept bytes
  clashed_by held kept there differ = ap (put_under (sha1 bytes) bytes) there ∙ unequal (bytes_eq kept bytes) refl
    where
      unequal : (b : Bool) → bytes_eq kept bytes ≡ b → (if b then ends (Given (Stored (sha1 bytes))) else clashes (sha1 bytes) kept bytes) ≡ clashes (sha1 bytes) kept bytes
      unequal true is = absurd (differ ((bytes_eq-Decides kept bytes).0 is))
      unequal false is = refl

  true_is : true ≡ false → ⊥
  true_is same = cc

  put_clash : (old new : Storing) (id kept new_bytes : List ℕ) → Counts old new → Clashes (object ∷ []) old.content new.content id kept new_bytes
      → DoesOnStore (act.PutObject bytes) old new (Err (Store (store.Clash id kept new_bytes)))
  put_clash old new id kept new_bytes counts clash =
      let at = clash_at old.content new.content id kept new_bytes clash.prefix clash.behind clash.splits clash.adds in
      let was : Tells old.content (λ held. get held id ≡ Some kept) = subst (λ o. Tells o (λ held. get held id ≡ Some kept)) at.0 clash.was in
      record {
        store = record { holds = at.0; later = counts.faults; untouched = λ asked. absurd (true_is asked) };
        end = λ limits l held is_told.
            subst (λ i. put_under (sha1 bytes) bytes (get held (sha1 bytes)) ≡ clashes i kept new_bytes) (sym at.1.0)
            (subst (λ n. put_under (sha1 bytes) bytes (get held (sha1 bytes)) ≡ clashes (sha1 bytes) kept n) (sym at.1.1)
            (clashed_by held kept (ap (get held) (sym at.1.0) ∙ told (λ h. get h id ≡ Some kept) old.content held is_told was) (λ same. clash.differ (same ∙ sym at.1.1))));
        suits = tt;
        cause = (refl, (record { put = ap act.PutObject (sym at.1.1); of_new = at.1.0 ∙ ap sha1 (sym at.1.1); differ = clash.differ }, was));
      }

  pub put_err : (fault : StoreFault) (old new : Storing) → Counts old new → StoresObject {A = List ℕ} object old new (Err fault) → DoesOnStore (act.PutObject bytes) old new (Err (of_store fault))
  put_err (store.StoreFailed note) old new counts does = record {
    store = record {
      holds = prefix_added old.content new.content does.stores.1.prefix does.stores.1.behind does.stores.1.splits does.stores.1.adds;
      later = counts.faults;
      untouched = λ asked. absurd (true_is asked);
    };
    end = λ limits l held is_told. tt;
    suits = tt;
    cause = (refl, record { first = does.stores.0.before; last = does.stores.0.after; rose = does.stores.0.rose });
  }
  put_err (store.Clash id kept new_bytes) old new counts does = put_clash old new id kept new_bytes counts does.stores
  put_err (store.Missing id) old new counts does = absurd does.stores
  put_err (store.BadObject id place) old new counts does = absurd does.stores
  put_err (store.Tree fault) old new counts does = absurd does.stores
  put_err (store.NoPath path) old new counts does = absurd does.stores
  put_err store.NoMemory old new counts does = record {
    store = record { holds = does.memory refl; later = counts.faults; untouched = λ asked. absurd (true_is asked) };
    end = λ limits l held is_told. tt;
    suits = tt;
    cause = tt;
  }
