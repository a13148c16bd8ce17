-- A lane that stands for a list tells its ledger.
use Rattle.std.proofs.Common.{◌≡◌, ℕ, ◌≤◌, arith, Bool, true, false, List, [], ◌∷◌, ◌++◌, length, take, All, Option, Some, None, option_map, is_some, refl, sym, ap, subst, ◌∙◌, append-nil}
use Rattle.std.specs.List.{cons_option}
use Rattle.std.specs.Result.{result_ok}
use Rattle.std.proofs.lemmas.List.{take_all, take-append-le, length-map}
use Rattle.std.proofs.lemmas.List.Elements.{All-head, All-tail}
use Rattle.fluid_io.specs.Causes.{Tells}
use Rattle.fluid_types.specs.Ledger.{Ledger, order, raws, seq}
use Rattle.fluid_types.specs.Printed.{raw_printed}
use Rattle.fluid_types.specs.declared.entries.Raw.{Raw}
use Rattle.fluid_types.specs.declared.verdicts.Verdict.{Verdict}
use Rattle.fluid_types.proofs.Ledgers.{order-push, seq-le_length}
use Rattle.fluid_rules.specs.Rules as rules
use Rattle.fluid_rules.specs.Rules.{IsLegal}
use Rattle.fluid_rules.specs.Counted.{is_full}
use Rattle.fluid_rules.specs.declared.limits.Limits.{Limits}
use Rattle.fluid_rules.proofs.Legal.{ledger-only}
use Rattle.fluid_log.specs.Keeping.{Content}
use Rattle.fluid_types.specs.Forms.{largest}
use Rattle.fluid_document.specs.Entries.{Entries, entries_of}
use Rattle.fluid_document.specs.Kept.{IsLoggable, IsKept, records}
use Rattle.fluid_store.specs.Held.{Held, IsShort}
use Rattle.fluid_store.specs.Storing.{Storing}
use Rattle.fluid_lane.specs.declared.fault.LaneFault.{LaneFault}
use Rattle.fluid_lane.specs.declared.steps.Step.{Step}
use Rattle.fluid_lane.specs.declared.steps.Step.TheVariants.{Entered}
use Rattle.fluid_lane.specs.Steps.{ledger}
use Rattle.fluid_lane.specs.Standing.{Standing, LaneStands, IsTold, IsFor, Goes}
use Rattle.fluid_lane.specs.Refusals.{is_full_for}
use Rattle.fluid_lane.specs.Laws.{SaysOf}
use Rattle.fluid_lane.proofs.Listed.{ledger-append}
use Rattle.fluid_lane.proofs.Says.{lane_says}
use Rattle.fluid_loader.specs.Link.{Document, IsOrder, IsDocument, BothTell}
use Rattle.fluid_orders.specs.Laws.{OrdersAreTold}
use Rattle.fluid_door_link.specs.Hushing.{IsShortAsTold}
use Rattle.fluid_door_link.specs.Linking.{Adds, IsFullWith}
use Rattle.fluid_door_link.specs.Telling.{raws_in, ledger_in, told_in, told_by}

-- ---- a lane that stands for a list

pub record IsKnown (s : Standing) : Type 0 where
  pub list : List Step
  pub stands : LaneStands s list
  pub content : Content
  pub told : s.keeping.content ≡ Some content

pub some_there : {A : Type 0} (o : Option A) → is_some o ≡ true → (a : A) × (o ≡ Some a)
some_there None is = absurd (cc)
some_there (Some a) is = (a, refl)

pub told_at : {A : Type 0} (P : A → Type 0) (o : Option A) (a : A) → o ≡ Some a → Tells o P → P a
told_at P o a is h = subst (λ x. Tells x P) is h

abbrev pub known_on : (s t : Standing) (more : List Step) → IsKnown s → Goes s t more → IsKnown t
known_on s t more known goes =
    let there = some_there t.keeping.content (goes.told ∙ ap is_some known.told) in
    record { list = known.list ++ more; stands = goes.list known.list known.stands; content = there.0; told = there.1 }

-- ---- the ledger that its log spells

-- the records of a ledger spell its raw entries
records_spell : (l : Ledger) → All IsLoggable l → raws_in (records l) ≡ raws l
unfolding raws
records_spell [] h = refl
records_spell (e ∷ l) h =
    ap (λ r. cons_option (result_ok r) (raws_in (records l))) (All-head IsLoggable e l h).fits.read_back ∙ ap (λ rs. e.0 ∷ rs) (records_spell l (All-tail IsLoggable e l h))

first_records : (l : Ledger) (behind : List (List ℕ)) → take (length l) (records l ++ behind) ≡ records l
first_records l behind =
    let count : length (records l) ≡ length l = length-map l (λ (entry : Raw × Verdict). raw_printed entry.0) in
    take-append-le (length l) (records l) behind (omega (arith, count)) ∙ take_all (length l) (records l) (omega (arith, count))

kept_ledger : (owed : Bool) (l : Ledger) (content : Content) → IsKept owed l content → ledger_in (length l) content.log ≡ l
kept_ledger owed l content kept =
    ap (λ log. ledger_in (length l) log) kept.log.splits
    ∙ ap (λ some. rules.ledger (raws_in some)) (first_records l kept.log.behind)
    ∙ ap rules.ledger (records_spell l kept.loggable)
    ∙ sym (ledger-only l kept.legal)

entered_is : (e : Entries) (l : Ledger) → e ≡ entries_of l → e.entered ≡ length l
unfolding entries_of
entered_is e l is = ap (λ (x : Entries). x.entered) is

pub seq_is : (l : Ledger) → seq l ≡ length (order l)
unfolding seq
seq_is l = refl

-- the document of a ledger
abbrev pub document_of : Ledger → ℕ → Held → Document
document_of l limit held = record { order = order l; held = held; ledger = Some l; limit = limit }

module _ (s : Standing) (known : IsKnown s) where
  abbrev pub ledger_of : Ledger
  ledger_of = ledger known.list

  lane_for : IsFor s.owed s.entries s.messages ledger_of known.content
  lane_for = (told_at (IsTold s known.list) s.keeping.content known.content known.told known.stands.told).stands

  pub says : SaysOf s ledger_of
  says = told_at (λ _. SaysOf s ledger_of) s.keeping.content known.content known.told (lane_says s known.list known.stands)

  -- the ledger that its log spells is that of its entries
  ledger_told : ledger_in s.entries.entered known.content.log ≡ ledger_of
  ledger_told =
      ap (λ count. ledger_in count known.content.log) (entered_is s.entries ledger_of lane_for.entries)
      ∙ kept_ledger s.owed ledger_of known.content lane_for.kept

  in_content : (o : Option Held) → told_in s (Some known.content) o ≡ option_map (document_of ledger_of s.limits.entries) o
  in_content None = refl
  in_content (Some held) = ap (λ l. Some (document_of l s.limits.entries held)) ledger_told

  pub told_of : (store : Storing) → told_by true s store ≡ option_map (document_of ledger_of s.limits.entries) store.content
  told_of store = ap (λ o. told_in s o store.content) known.told ∙ in_content store.content

  document_is : OrdersAreTold → (held : Held) → IsShort held → IsDocument (document_of ledger_of s.limits.entries held)
  document_is orders held short = record {
    in_order = orders ledger_of lane_for.kept.legal lane_for.kept.few lane_for.kept.loggable;
    of_ledger = record { legal = lane_for.kept.legal; its_order = refl };
    short = short;
  }

  pub order_told : OrdersAreTold → IsOrder (order ledger_of)
  order_told orders = orders ledger_of lane_for.kept.legal lane_for.kept.few lane_for.kept.loggable

  -- its messages are no more than a document may have entries
  pub few_order : length (order ledger_of) ≤ largest
  few_order = omega (arith, seq-le_length ledger_of, seq_is ledger_of, lane_for.kept.few)

  -- what is told is a document
  is_document_of : OrdersAreTold → (o : Option Held) → ((held : Held) → o ≡ Some held → IsShort held) → Tells (option_map (document_of ledger_of s.limits.entries) o) IsDocument
  is_document_of orders None short = tt
  is_document_of orders (Some held) short = document_is orders held (short held refl)

pub is_document : OrdersAreTold → (good : Bool) (s : Standing) → (good ≡ true → IsKnown s) → (store : Storing) → IsShortAsTold store → Tells (told_by good s store) IsDocument
is_document orders false s known store short = tt
is_document orders true s known store short =
    subst (λ o. Tells o IsDocument) (sym (told_of s (known refl) store)) (is_document_of s (known refl) orders store.content short)

-- ---- what a lane that goes on tells

module _ (s t : Standing) (more : List Step) (goes : Goes s t more) where
  same_known : IsKnown s → ledger more ≡ [] → (store now : Storing) → now.content ≡ store.content → told_by true t now ≡ told_by true s store
  same_known known none store now same =
      let next = known_on s t more known goes in
      let ledgers : ledger (known.list ++ more) ≡ ledger known.list = ledger-append known.list more ∙ ap (λ l. ledger known.list ++ l) none ∙ append-nil (ledger known.list) in
      told_of t next now
      ∙ ap (λ o. option_map (document_of (ledger (known.list ++ more)) t.limits.entries) o) same
      ∙ ap (λ l. option_map (document_of l t.limits.entries) store.content) ledgers
      ∙ ap (λ limits. option_map (document_of (ledger known.list) limits) store.content) (ap (λ (l : Limits). l.entries) goes.limits)
      ∙ sym (told_of s known store)

  -- no entry is added: the same is told
  pub same_told : (good : Bool) → (good ≡ true → IsKnown s) → ledger more ≡ [] → (store now : Storing) → now.content ≡ store.content → told_by good t now ≡ told_by good s store
  same_told false known none store now same = refl
  same_told true known none store now same = same_known (known refl) none store now same

-- an entry is added, for which there is room
module _ (s t : Standing) (raw : Raw) (said : Verdict) (goes : Goes s t (Entered raw said ∷ [])) (room : (is_full_for s raw).0 ≡ false) where
  added_to : (l m : Ledger) (limit now : ℕ) → m ≡ l ++ (raw, said) ∷ [] → now ≡ limit → is_full limit l raw ≡ false → (o : Option Held)
      → BothTell (Adds raw said) (option_map (document_of l limit) o) (option_map (document_of m now) o)
  added_to l m limit now is same free None = tt
  added_to l m limit now is same free (Some held) = record {
    room = free;
    added =
        ap (λ k. document_of k now held) is
        ∙ ap (λ n. document_of (l ++ (raw, said) ∷ []) n held) same
        ∙ ap (λ o. record { order = o; held = held; ledger = Some (l ++ (raw, said) ∷ []); limit = limit }) (order-push l (raw, said));
  }

  added_known : IsKnown s → (store : Storing) → BothTell (Adds raw said) (told_by true s store) (told_by true t store)
  added_known known store =
      let next = known_on s t (Entered raw said ∷ []) known goes in
      let free : is_full s.limits.entries (ledger known.list) raw ≡ false = sym (ap (λ (p : Bool × LaneFault). p.0) ((says s known).full raw)) ∙ room in
      let both =
      added_to (ledger known.list) (ledger (known.list ++ Entered raw said ∷ [])) s.limits.entries t.limits.entries (ledger-append known.list (Entered raw said ∷ []))
      (ap (λ (l : Limits). l.entries) goes.limits) free store.content in
      subst (λ o. BothTell (Adds raw said) o (told_by true t store)) (sym (told_of s known store))
      (subst (λ o. BothTell (Adds raw said) (option_map (document_of (ledger known.list) s.limits.entries) store.content) o) (sym (told_of t next store)) both)

  pub added : (good : Bool) → (good ≡ true → IsKnown s) → (store : Storing) → BothTell (Adds raw said) (told_by good s store) (told_by good t store)
  added false known store = tt
  added true known store = added_known (known refl) store

-- a fact on what is told before a call that leaves it
pub both_of_same : {old new : Option Document} (P : Document → Document → Type 0) → new ≡ old → Tells old (λ d. P d d) → BothTell P old new
both_of_same {old = old} P is h = subst (λ o. BothTell P old o) (sym is) (by old h)
  where
    by : (o : Option Document) → Tells o (λ d. P d d) → BothTell P o o
    by None h = tt
    by (Some d) h = h

-- the document is full for the entry, and nothing is added
module _ (s t : Standing) (raw : Raw) (goes : Goes s t []) (full : (is_full_for s raw).0 ≡ true) where
  full_of : (l : Ledger) (limit : ℕ) → is_full limit l raw ≡ true → (o : Option Held) → Tells (option_map (document_of l limit) o) (λ d. IsFullWith raw d d)
  full_of l limit is None = tt
  full_of l limit is (Some held) = record { full = is; same = refl }

  full_known : IsKnown s → (store : Storing) → Tells (told_by true s store) (λ d. IsFullWith raw d d)
  full_known known store =
      let is : is_full s.limits.entries (ledger known.list) raw ≡ true = sym (ap (λ (p : Bool × LaneFault). p.0) ((says s known).full raw)) ∙ full in
      subst (λ o. Tells o (λ d. IsFullWith raw d d)) (sym (told_of s known store)) (full_of (ledger known.list) s.limits.entries is store.content)

  full_told : (good : Bool) → (good ≡ true → IsKnown s) → (store : Storing) → Tells (told_by good s store) (λ d. IsFullWith raw d d)
  full_told false known store = tt
  full_told true known store = full_known (known refl) store

  pub full_both : (good : Bool) → (good ≡ true → IsKnown s) → (store : Storing) → BothTell (IsFullWith raw) (told_by good s store) (told_by good t store)
  full_both good known store = both_of_same (IsFullWith raw) (same_told s t [] goes good known refl store store refl) (full_told good known store)
