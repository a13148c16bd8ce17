-- What the calls of a link do, as it is seen.
use Rattle.std.proofs.Common.{◌≡◌, ◌⊎◌, inl, inr, ℕ, ◌^◌, ◌<◌, ◌≤◌, arith, Bool, true, false, List, [], ◌∷◌, ◌++◌, map, Option, Some, None, IfSome, option_map, Result, Ok, Err, IfOk, refl, sym, ap, subst, ◌∙◌}
use Rattle.std.specs.Prelude.{if◌then◌else◌, nat_le}
use Rattle.std.proofs.lemmas.Bool.{leb-true, le-leb}
use Rattle.fluid_io.specs.Causes.{Rose, Tells}
use Rattle.fluid_types.specs.Forms.{largest}
use Rattle.fluid_types.specs.Ledger.{order}
use Rattle.fluid_types.specs.declared.entries.Raw.{Raw}
use Rattle.fluid_types.specs.declared.entries.Raw.TheVariants.{Submit}
use Rattle.fluid_types.specs.declared.entries.Submission.{Submission}
use Rattle.fluid_types.specs.declared.messages.Message.{Message}
use Rattle.fluid_types.specs.declared.nacks.Nack.{Nack}
use Rattle.fluid_types.specs.declared.nacks.NackRule.TheVariants.{Full}
use Rattle.fluid_types.specs.declared.verdicts.Verdict.{Verdict}
use Rattle.fluid_tree.specs.Summary.{Summary}
use Rattle.fluid_tree.specs.declared.id.SummaryRef.{SummaryRef}
use Rattle.fluid_rules.specs.Scribe.{acks}
use Rattle.fluid_lane.specs.Steps.{ledger}
use Rattle.fluid_lane.specs.Standing.{Standing}
use Rattle.fluid_store.specs.Held.{Held}
use Rattle.fluid_store.specs.Storing.{Storing}
use Rattle.fluid_store.specs.Parts.{objects_over}
use Rattle.fluid_store.specs.declared.fault.StoreFault.{StoreFault}
use Rattle.fluid_store.specs.declared.listing.StoredObject.{StoredObject}
use Rattle.fluid_loader.specs.Link.{Document, Linked, BothTell, given, picked, Gets, Fetches, Submits, Uploads, SubmitSays, UploadSays, MaySubmit, MayEnter, Enters, PutsSome, CountsTrees, count_handles}
use Rattle.fluid_loader.specs.Laws.{ArePickedWithin}
use Rattle.fluid_loader.specs.declared.link.Given.{Given}
use Rattle.fluid_loader.specs.declared.link.Given.TheVariants.{Taken, Nacked}
use Rattle.fluid_loader.specs.declared.link.Pick.{Pick}
use Rattle.fluid_loader.specs.declared.link.Pick.TheVariants.{Empty, Latest, Handle}
use Rattle.fluid_loader.specs.declared.link.LinkFault.{LinkFault}
use Rattle.fluid_loader.specs.declared.link.LinkFault.TheVariants.{Failed, Clash, NoMemory}
use Rattle.fluid_orders.specs.Laws.{OrdersAreTold}
use Rattle.fluid_door_link.specs.declared.fault.LentFault.{LentFault}
use Rattle.fluid_door_link.specs.Failing.{IsNoRefusal, IsTreeCounted}
use Rattle.fluid_door_link.specs.Linking.{Adds, IsFullWith, EntersBy, ReadsBy, GetsBy, TreesBy, UploadsBy, PutsAll, Answers, IsCounted, few_only, picked_among}
use Rattle.fluid_door_link.specs.Telling.{told_by}
use Rattle.fluid_door_link.proofs.Told.{IsKnown, document_of, says, told_of, order_told, few_order}

-- ---- what is told before and behind

pub both_so : (P Q : Document → Document → Type 0) → ((d e : Document) → P d e → Q d e) → (o p : Option Document) → BothTell P o p → BothTell Q o p
both_so P Q f None None h = tt
both_so P Q f None (Some e) h = h
both_so P Q f (Some d) None h = h
both_so P Q f (Some d) (Some e) h = f d e h

both_same : (P : Document → Document → Type 0) → ((d : Document) → P d d) → (o p : Option Document) → p ≡ o → BothTell P o p
both_same P f o p is = subst (BothTell P o) (sym is) (of o)
  where
    of : (x : Option Document) → BothTell P x x
    of None = tt
    of (Some d) = f d

-- ---- counts

counts_up : (fault : LinkFault) (a b x y : ℕ) → IsCounted fault a b x y → (a ≤ b) × (x ≤ y)
counts_up Failed a b x y is = (is.1.0, omega (arith, is.1.1))
counts_up (Clash id kept bytes) a b x y is = (omega (arith, is.1.1), is.1.0)
counts_up NoMemory a b x y is = (omega (arith, is.0), omega (arith, is.1))

-- ---- a link

module _ (client : List ℕ) (moment : ℕ) (messages : List ℕ) (objects : List (List ℕ)) (handles : List ℕ) (trees : ℕ) where
  abbrev pub linked : Option Document → (faults refusals : ℕ) → List Submission → Linked
  linked told faults refusals taken = record {
    client = client;
    moment = moment;
    told = told;
    faults = faults;
    refusals = refusals;
    bad_trees = trees;
    messages = messages;
    objects = objects;
    handles = handles;
    taken = taken;
  }

  -- ---- a submission

  module _ (s : Submission) (old new : Option Document) (taken : List Submission) where
    abbrev raw : Raw
    raw = Submit client s moment

    may_be : BothTell (MayEnter raw) old new → (later : List Submission) → (later ≡ taken) ⊎ (later ≡ taken ++ s ∷ []) → (a b x y : ℕ)
        → MaySubmit s (linked old a x taken) (linked new b y later)
    may_be both later is a b x y = record { document = both; taken = is }

    entered_may : (said : Verdict) → BothTell (Adds raw said) old new → BothTell (MayEnter raw) old new
    entered_may said = both_so (Adds raw said) (MayEnter raw) (λ d e h. inr (said, h.added)) old new

    enters_so : (said : Verdict) (answer : Given) → given said ≡ answer → BothTell (Adds raw said) old new → BothTell (Enters raw answer) old new
    enters_so said answer is = both_so (Adds raw said) (Enters raw answer) (λ d e h. inl (h.room, (said, (sym is, h.added)))) old new

    submits_so : (a b x y : ℕ) (later : List Submission) (r : Result Given LinkFault) → a ≤ b → x ≤ y → SubmitSays s (linked old a x taken) (linked new b y later) r
        → Submits s (linked old a x taken) (linked new b y later) r
    submits_so a b x y later r le less h = record {
      changes = record { client = refl; moment = refl; faults = le; refusals = less; messages = refl; objects = refl };
      handles = refl;
      trees = refl;
      says = h;
    }

    -- it was entered, and this is answered to its verdict
    pub submitted : (said : Verdict) (a x y : ℕ) (later : List Submission) (r : Result Given LinkFault) → BothTell (Adds raw said) old new → Answers raw said x y taken later r
        → Submits s (linked old a x taken) (linked new a y later) r
    submitted said a x y later (Ok Taken) both is = submits_so a a x y later (Ok Taken) (omega arith) (omega (arith, is.1.0)) (is.1.1, enters_so said Taken is.0 both)
    submitted said a x y later (Ok (Nacked nack)) both is =
        submits_so a a x y later (Ok (Nacked nack)) (omega arith) is.1.1.0 (is.1.1.1, (is.1.0, enters_so said (Nacked nack) is.0 both))
    submitted said a x y later (Err Failed) both is = absurd is
    submitted said a x y later (Err (Clash id kept bytes)) both is = absurd is
    submitted said a x y later (Err NoMemory) both is = submits_so a a x y later (Err NoMemory) (omega arith) (omega (arith, is.0)) (may_be (entered_may said both) later (inl is.1) a a x y)

    -- the document is full
    pub full : (nack : Nack) → nack.rule ≡ Full → (a x y : ℕ) → Rose x y → x ≤ y → BothTell (IsFullWith raw) old new → Submits s (linked old a x taken) (linked new a y taken) (Ok (Nacked nack))
    full nack is a x y rose up both =
        submits_so a a x y taken (Ok (Nacked nack)) (omega arith) up (refl, (rose, both_so (IsFullWith raw) (Enters raw (Nacked nack)) (λ d e h. inr (h.full, (is, h.same))) old new both))

    -- nothing was entered
    pub unsubmitted : (fault answer : LinkFault) (a b x y : ℕ) → EntersBy raw old new (Err fault) → answer ≡ fault → IsCounted fault a b x y
        → Submits s (linked old a x taken) (linked new b y taken) (Err answer)
    unsubmitted fault answer a b x y by same is =
        subst (λ f. Submits s (linked old a x taken) (linked new b y taken) (Err f)) (sym same)
        (submits_so a b x y taken (Err fault) (counts_up fault a b x y is).0 (counts_up fault a b x y is).1 (says_so fault by is))
      where
        none : new ≡ old → BothTell (MayEnter raw) old new
        none is = both_same (MayEnter raw) (λ d. inl refl) old new is

        says_so : (f : LinkFault) → EntersBy raw old new (Err f) → IsCounted f a b x y → SubmitSays s (linked old a x taken) (linked new b y taken) (Err f)
        says_so Failed by is = (is.0, may_be (none by) taken (inl refl) a b x y)
        says_so (Clash id kept bytes) by is = absurd by
        says_so NoMemory by is = may_be (none by) taken (inl refl) a b x y

  pub nothing_submitted : (s : Submission) (told : Option Document) (taken : List Submission) (a x : ℕ) → Submits s (linked told a x taken) (linked told a x taken) (Err NoMemory)
  nothing_submitted s told taken a x = submits_so s told told taken a a x x taken (Err NoMemory) (omega arith) (omega arith)
      (may_be s told told taken (both_same (MayEnter (Submit client s moment)) (λ d. inl refl) told told refl) taken (inl refl) a a x x)

-- ---- an upload

module _ (client : List ℕ) (moment : ℕ) (messages : List ℕ) (objects : List (List ℕ)) (taken : List Submission) (node : Summary) (base : Option (List ℕ)) where
  uploads_so : (old new : Option Document) (a b x y : ℕ) (handles later : List ℕ) (t u : ℕ) (r : Result (List ℕ) LinkFault) → a ≤ b → x ≤ y → TreesBy node base old new t u r
      → UploadSays node base (linked client moment messages objects handles t old a x taken) (linked client moment messages objects later u new b y taken) r
      → Uploads node base (linked client moment messages objects handles t old a x taken) (linked client moment messages objects later u new b y taken) r
  uploads_so old new a b x y handles later t u r le less counts h = record {
    changes = record { client = refl; moment = refl; faults = le; refusals = less; messages = refl; objects = refl };
    taken = refl;
    trees = trees_so r counts;
    says = h;
  }
    where
      trees_so : (r : Result (List ℕ) LinkFault) → TreesBy node base old new t u r
          → CountsTrees node base (linked client moment messages objects handles t old a x taken) (linked client moment messages objects later u new b y taken) r
      trees_so (Ok id) is = is
      trees_so (Err Failed) is = is
      trees_so (Err (Clash id kept bytes)) is = is
      trees_so (Err NoMemory) is = is

  none_first : (r : Result (List ℕ × List StoredObject) StoreFault) → IfOk r (λ tree. (behind : List StoredObject) × (tree.1 ≡ [] ++ behind))
  none_first (Ok tree) = (tree.1, refl)
  none_first (Err fault) = tt

  puts_none : (d : Document) → PutsSome node base d d
  puts_none d = record { prefix = []; are_first = none_first (objects_over d.held base node); held = refl; kept = λ id bytes found. found }

  pub nothing_put : (told : Option Document) (a x : ℕ) (handles later : List ℕ) (t : ℕ)
      → Uploads node base (linked client moment messages objects handles t told a x taken) (linked client moment messages objects later t told a x taken) (Err NoMemory)
  nothing_put told a x handles later t =
      uploads_so told told a a x x handles later t t (Err NoMemory) (omega arith) (omega arith) refl (both_same (PutsSome node base) puts_none told told refl)

  pub uploaded : (old new : Option Document) (a x : ℕ) (handles later : List ℕ) (t u : ℕ) (id : List ℕ) → TreesBy node base old new t u (Ok id) → later ≡ handles ++ count_handles node ∷ [] → UploadsBy node base old new (Ok id)
      → Uploads node base (linked client moment messages objects handles t old a x taken) (linked client moment messages objects later u new a x taken) (Ok id)
  uploaded old new a x handles later t u id counts is by =
      uploads_so old new a a x x handles later t u (Ok id) (omega arith) (omega arith) counts
      (is, (both_so (PutsAll node base id) _ (λ d e h. h.tree) old new by, both_so (PutsAll node base id) _ (λ d e h. h.stands) old new by))

-- ---- calls that read

module _ (client : List ℕ) (moment : ℕ) (trees : ℕ) (handles : List ℕ) (taken : List Submission) where
  abbrev pub reader : Option Document → (faults refusals : ℕ) → (messages : List ℕ) → (objects : List (List ℕ)) → Linked
  reader told faults refusals messages objects = record {
    client = client;
    moment = moment;
    told = told;
    faults = faults;
    refusals = refusals;
    bad_trees = trees;
    messages = messages;
    objects = objects;
    handles = handles;
    taken = taken;
  }

  -- a call that failed leaves all but its count
  module _ (old new : Option Document) (messages : List ℕ) (objects : List (List ℕ)) (a b x y : ℕ) (same : new ≡ old) (quiet : y ≡ x) where
    left : reader new b y messages objects ≡ record (reader old a x messages objects) { faults = b }
    left = ap (λ t. reader t b y messages objects) same ∙ ap (λ r. reader old b r messages objects) quiet

  module _ (id : List ℕ) (old new : Option Document) (messages : List ℕ) (objects : List (List ℕ)) where
    pub got : (found : Option (List ℕ)) (a x : ℕ) → GetsBy id old new (Ok found) → Gets id (reader old a x messages objects) (reader new a x messages (objects ++ id ∷ [])) (Ok found)
    got found a x by = record { later = omega arith; says = (ap (λ t. reader t a x messages (objects ++ id ∷ [])) by.0, by.1) }

  module _ (from : ℕ) (old new : Option Document) (objects : List (List ℕ)) (numbers : List ℕ) where
    pub fetched : (messages : List Message) (later : List ℕ) (a x : ℕ) → ReadsBy from old new (Ok messages) → later ≡ numbers ++ map (λ m. m.number) messages
        → Fetches from (reader old a x numbers objects) (reader new a x later objects) (Ok messages)
    fetched messages later a x by is = record {
      later = omega arith;
      says = (ap (λ t. reader t a x later objects) by.0 ∙ ap (λ l. reader old a x l objects) is, (by.1.numbered, (by.1.few, by.1.are)));
    }

-- ---- acknowledged summaries

few_fits : (found : Option SummaryRef) → IfSome (few_only found) (λ s. s.number < 2 ^ 53)
few_fits None = tt
few_fits (Some ack) = by (nat_le ack.number largest) refl
  where
    by : (b : Bool) → nat_le ack.number largest ≡ b → IfSome (if b then Some ack else None) (λ (s : SummaryRef). s.number < 2 ^ 53)
    by true is = let le : ack.number ≤ largest = leb-true ack.number largest is in omega (arith, le)
    by false is = tt

few_same : (found : Option SummaryRef) → ((s : SummaryRef) → found ≡ Some s → s.number ≤ largest) → few_only found ≡ found
few_same None le = refl
few_same (Some ack) le = ap (λ b. if b then Some ack else None) (le-leb ack.number largest (le ack refl))

among_is : (pick : Pick) (messages : List Message) (known : List SummaryRef) → known ≡ acks messages → picked_among pick known ≡ picked pick messages
among_is pick messages known is = ap (picked_among pick) is ∙ of pick
  where
    of : (p : Pick) → picked_among p (acks messages) ≡ picked p messages
    of Empty = refl
    of Latest = refl
    of (Handle id) = refl

module _ (within : ArePickedWithin) (orders : OrdersAreTold) (pick : Pick) (good : Bool) (s : Standing) (known : good ≡ true → IsKnown s) (store : Storing) (found : Option SummaryRef)
    (is : found ≡ few_only (picked_among pick s.entries.state.scribe.acks)) where
  of_order : (at : IsKnown s) → found ≡ picked pick (order (ledger at.list))
  of_order at =
      let messages = order (ledger at.list) in
      let own : picked_among pick s.entries.state.scribe.acks ≡ picked pick messages = among_is pick messages s.entries.state.scribe.acks (says s at).acks in
      let told = order_told s at orders in
      let most_is = few_order s at in
      is
      ∙ few_same (picked_among pick s.entries.state.scribe.acks)
      (λ summary there. omega (arith, within pick messages summary told (sym own ∙ there), most_is))
      ∙ own

  of_told : (at : IsKnown s) (o : Option Held) → Tells (option_map (document_of (ledger at.list) s.limits.entries) o) (λ d. found ≡ picked pick d.order)
  of_told at None = tt
  of_told at (Some held) = of_order at

  pub picks_told : Tells (told_by good s store) (λ d. found ≡ picked pick d.order)
  picks_told = by good refl
    where
      by : (b : Bool) → good ≡ b → Tells (told_by b s store) (λ d. found ≡ picked pick d.order)
      by false so = tt
      by true so = subst (λ o. Tells o (λ d. found ≡ picked pick d.order)) (sym (told_of s (known so) store)) (of_told (known so) store.content)

  pub picks_few : IfSome found (λ summary. summary.number < 2 ^ 53)
  picks_few = subst (λ o. IfSome o (λ (summary : SummaryRef). summary.number < 2 ^ 53)) (sym is) (few_fits (picked_among pick s.entries.state.scribe.acks))

-- ---- what is kept

apart : false ≡ true → ⊥
apart same = cc

pub no_refusal : (stop : Option LentFault) (trees : ℕ) → IsNoRefusal stop → IsTreeCounted stop trees
no_refusal stop trees none is = absurd (apart (sym none ∙ is))
