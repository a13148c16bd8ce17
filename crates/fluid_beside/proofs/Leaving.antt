-- A step leaves the other names, and most leave the store.
use Rattle.std.proofs.Common.{◌≡◌, ℕ, ◌+◌, ◌≤◌, ◌^◌, arith, Bool, true, false, cond, if◌then◌else◌, List, [], ◌∷◌, ◌++◌, length, All, Option, Some, None, bytes_eq, refl, sym, ap, subst, ◌∙◌, append-nil, length-append}
use Rattle.std.specs.Prelude.{IfSome}
use Rattle.std.specs.FinMap.{get, insert}
use Rattle.std.proofs.lemmas.List.Elements.{All-nil, All-cons, All-head, All-tail}
use Rattle.std.proofs.lemmas.Slice.Eq.{bytes_eq-Decides}
use Rattle.fluid_types.specs.Ledger.{Ledger}
use Rattle.fluid_types.specs.declared.entries.Raw.{Raw}
use Rattle.fluid_rules.specs.Rules.{verdict, ledger, entries_behind}
use Rattle.fluid_rules.specs.declared.limits.Limits.{Limits}
use Rattle.fluid_steps.specs.declared.steps.Step.{Step}
use Rattle.fluid_voice.specs.Ends.{is_beyond}
use Rattle.fluid_transcript.specs.World.{Container, container, roamer, World, new_document, document, is_open, ledger_of, with_entries, farewells, Effect, grown, changed, does}
use Rattle.fluid_transcript.specs.Containers.{id_of}
use Rattle.fluid_transcript.specs.Sound.{client_in, ledger_in, IsSoundContainer, IsSoundName, IsSound}
use Rattle.fluid_transcript.specs.Steps.{refusal, about, effect, beyond}
use Rattle.fluid_transcript.specs.Transcript.{readied, done_in, done_on}
use Rattle.fluid_transcript.proofs.Begins.{ledger_more}
use Rattle.fluid_transcript.proofs.Sounds.{document_inserted, document_own}
use Rattle.fluid_holding.specs.Holding.{is_made_by}
use Rattle.fluid_beside.specs.Beside.{own_name, IsOther, GoesOnBeside, StepsLeaveOthers, StepsKeepStore}
use Rattle.fluid_beside.proofs.Names.{named, named_beyond, keeps, keeps_beyond}
use Rattle.fluid_beside.proofs.Entries.{Beside, beside}

-- ---- ledgers

entries_beside : (own : List ℕ) (l : Ledger) (more : List Raw) → All (Beside own) more → All (λ entry. is_made_by own entry.0 ≡ false) (entries_behind l more)
entries_beside own l [] h = All-nil (λ entry. is_made_by own entry.0 ≡ false)
entries_beside own l (raw ∷ more) h =
    All-cons (λ entry. is_made_by own entry.0 ≡ false) (raw, verdict l raw) (entries_behind (l ++ (raw, verdict l raw) ∷ []) more) (All-head (Beside own) raw more h)
    (entries_beside own (l ++ (raw, verdict l raw) ∷ []) more (All-tail (Beside own) raw more h))

goes_by : (own : List ℕ) (raws more : List Raw) → All (Beside own) more → GoesOnBeside own (ledger raws) (ledger (raws ++ more))
goes_by own raws more h = record { more = entries_behind (ledger raws) more; is = ledger_more raws more; beside = entries_beside own (ledger raws) more h }

goes_not : (own : List ℕ) (l : Ledger) → GoesOnBeside own l l
goes_not own l = record { more = []; is = sym (append-nil l); beside = All-nil (λ entry. is_made_by own entry.0 ≡ false) }

-- ---- a first use

abbrev readied_by : World → List ℕ → Bool → World
readied_by w name b = if b then w else (record w {
  documents = insert w.documents name (with_entries (farewells w.moment (document w name)) (document w name));
  opened = w.opened ++ name ∷ [];
})

readied_names : (w : World) (name : List ℕ) (b : Bool) → (readied_by w name b).names ≡ w.names
readied_names w name true = refl
readied_names w name false = refl

readied_store : (w : World) (name : List ℕ) (b : Bool) → (readied_by w name b).store ≡ w.store
readied_store w name true = refl
readied_store w name false = refl

-- another document stays
readied_other : (w : World) (name q : List ℕ) (b : Bool) → bytes_eq q name ≡ false → document (readied_by w name b) q ≡ document w q
readied_other w name q true other = refl
readied_other w name q false other =
    document_inserted w.documents name (with_entries (farewells w.moment (document w name)) (document w name)) q
    ∙ ap (λ b. cond b (with_entries (farewells w.moment (document w name)) (document w name)) (document w q)) other

-- ---- a step

module _ (limits : Limits) (w : World) (step : Step) (q : List ℕ) (sound : IsSound w) (ok : refusal w step ≡ None) (other : IsOther (own_name step) q) where
  names_on : (name : Option (List ℕ)) → get (done_on limits w name step).world.names q ≡ get w.names q
  names_on None = named limits w w.names q new_document step other
  names_on (Some name) = by (is_beyond w.opened name)
    where
      by : (full : Bool) → get (if full then does (beyond limits w name step) None w else done_in limits (readied w name) name step).world.names q ≡ get w.names q
      by true = named_beyond limits w w.names q name step other
      by false =
          named limits (readied w name) (readied w name).names q (document (readied w name) name) step other ∙ ap (λ names. get names q) (readied_names w name (is_open w name))

  module _ (k : Container) (is_sound : IsSoundContainer w k) (client : client_in (get w.names q) ≡ Some (k.document, id_of k)) where
    open_is : is_open w k.document ≡ true
    open_is = is_sound.open_is

    -- the step reaches its document
    in_own : (r : World) → r ≡ w → about w step ≡ Some k.document
        → length (document (done_in limits r k.document step).world k.document).raws ≤ 2 ^ 64 → GoesOnBeside (id_of k) (ledger_in w k.document) (ledger_in (done_in limits r k.document step).world k.document)
    in_own r same to = subst (λ v. length (document (done_in limits v k.document step).world k.document).raws ≤ 2 ^ 64
        → GoesOnBeside (id_of k) (ledger_in w k.document) (ledger_in (done_in limits v k.document step).world k.document)) (sym same) by
      where
        e : Effect
        e = effect limits w (document w k.document) step

        new_is : document (changed e (Some k.document) w) k.document ≡ grown e (document w k.document)
        new_is = document_own w.documents k.document (grown e (document w k.document))

        by : length (document (changed e (Some k.document) w) k.document).raws ≤ 2 ^ 64
            → GoesOnBeside (id_of k) (ledger_in w k.document) (ledger_in (changed e (Some k.document) w) k.document)
        by fits =
            subst (λ doc. GoesOnBeside (id_of k) (ledger_in w k.document) (ledger_of doc)) (sym new_is)
            (goes_by (id_of k) (document w k.document).raws e.entries
            (beside limits w sound q k is_sound client step ok other to (omega (arith, fits, ap (λ doc. length doc.raws) new_is, length-append (document w k.document).raws e.entries))))

    -- or another one
    in_other : (name : List ℕ) → bytes_eq k.document name ≡ false → GoesOnBeside (id_of k) (ledger_in w k.document) (ledger_in (done_in limits (readied w name) name step).world k.document)
    in_other name apart =
        let r = readied w name in
        let e = effect limits r (document r name) step in
        let same = document_inserted r.documents name (grown e (document r name)) k.document ∙ ap (λ b. cond b (grown e (document r name)) (document r k.document)) apart
        ∙ readied_other w name k.document (is_open w name) apart in
        subst (λ doc. GoesOnBeside (id_of k) (ledger_in w k.document) (ledger_of doc)) (sym same) (goes_not (id_of k) (ledger_in w k.document))

    in_place : (name : List ℕ) (b : Bool) → bytes_eq k.document name ≡ b → about w step ≡ Some name
        → length (document (done_in limits (readied w name) name step).world k.document).raws ≤ 2 ^ 64
        → GoesOnBeside (id_of k) (ledger_in w k.document) (ledger_in (done_in limits (readied w name) name step).world k.document)
    in_place name false apart to fits = in_other name apart
    in_place name true same to fits =
        let is = (bytes_eq-Decides k.document name).0 same in
        let as_it_was : readied w name ≡ w = ap (readied_by w name) (ap (is_open w) (sym is) ∙ open_is) in
        subst (λ n. GoesOnBeside (id_of k) (ledger_in w k.document) (ledger_in (done_in limits (readied w name) n step).world k.document)) is
        (in_own (readied w name) as_it_was (to ∙ ap Some (sym is))
        (subst (λ n. length (document (done_in limits (readied w name) n step).world k.document).raws ≤ 2 ^ 64) (sym is) fits))

    goes_on : (name : Option (List ℕ)) → about w step ≡ name → length (document (done_on limits w name step).world k.document).raws ≤ 2 ^ 64
        → GoesOnBeside (id_of k) (ledger_in w k.document) (ledger_in (done_on limits w name step).world k.document)
    goes_on None to fits = goes_not (id_of k) (ledger_in w k.document)
    goes_on (Some name) to fits = by (is_beyond w.opened name) fits
      where
        by : (full : Bool) → length (document (if full then does (beyond limits w name step) None w else done_in limits (readied w name) name step).world k.document).raws ≤ 2 ^ 64
            → GoesOnBeside (id_of k) (ledger_in w k.document) (ledger_in (if full then does (beyond limits w name step) None w else done_in limits (readied w name) name step).world k.document)
        by true fits = goes_not (id_of k) (ledger_in w k.document)
        by false fits = in_place name (bytes_eq k.document name) refl to fits

pub steps_leave : StepsLeaveOthers
steps_leave limits w step q sound ok other = record {
  name = names_on limits w step q sound ok other (about w step);
  container = λ k there fits.
      goes_on limits w step q sound ok other k (subst (λ o. IfSome o (IsSoundName w)) there (sound.names q)) (ap client_in there) (about w step) refl fits;
  roamer = λ k there fits.
      goes_on limits w step q sound ok other k.client (subst (λ o. IfSome o (IsSoundName w)) there (sound.names q)).client (ap client_in there) (about w step) refl fits;
}

-- ---- the store

pub steps_keep : StepsKeepStore
steps_keep limits w step none = on (about w step)
  where
    by : (name : List ℕ) (full : Bool) → (if full then does (beyond limits w name step) None w else done_in limits (readied w name) name step).world.store ≡ w.store
    by name true = keeps_beyond limits w name step none
    by name false = keeps limits (readied w name) (document (readied w name) name) step none ∙ readied_store w name (is_open w name)

    on : (name : Option (List ℕ)) → (done_on limits w name step).world.store ≡ w.store
    on None = keeps limits w new_document step none
    on (Some name) = by name (is_beyond w.opened name)
