-- Where a container begins, and what loading one does, call after call.
use Rattle.std.proofs.Common.{◌≡◌, ℕ, suc, ◌-◌, ◌+◌, ◌≤◌, ◌++◌, [], ◌∷◌, List, map, take, drop, length, Option, Some, None, Result, Ok, Err, refl, sym, ap, subst, ◌∙◌, arith, append-nil, length-drop}
use Rattle.std.specs.Prelude.{IfErr}
use Rattle.std.specs.Result.{IsErrAnd}
use Rattle.fluid_io.specs.Causes.{Tells}
use Rattle.fluid_tree.specs.declared.id.SummaryRef.{SummaryRef}
use Rattle.fluid_types.specs.Order.{AreNumberedFrom}
use Rattle.fluid_types.specs.declared.messages.Message.{Message}
use Rattle.fluid_loader.specs.Calls.{FetchesIn, Answers, ReadStops, LoadReads, LoadsOnly, PumpReads, PumpDoes, PickedSays, Sees, Loaded, LoadDoes, begun_of, or_bad, begun_picked, begun_in}
use Rattle.fluid_loader.specs.Container.{AContainer, empty, begun, behind, taken_by}
use Rattle.fluid_loader.specs.Laws.{between, AreAbreast, ArePickedWithin, IsBased, IsBehind, IsHonestPick, IsHonestRead, IsNoBadSummary, HasReplayed, IsWholeReplay, StayBased}
use Rattle.fluid_loader.specs.Link.{Document, IsDocument, Linked, Reads, picked}
use Rattle.fluid_loader.specs.Version.{AVersion, IsOfVersion, version_at}
use Rattle.fluid_loader.specs.declared.link.Pick.{Pick}
use Rattle.fluid_loader.specs.declared.link.Pick.TheVariants.{Empty, Latest, Handle}
use Rattle.fluid_loader.proofs.Orders.{drop_numbered, behind_number}
use Rattle.fluid_loader.proofs.Stays.{behind_more}
use Rattle.fluid_loader.specs.declared.fault.LoadFault.{LoadFault}
use Rattle.fluid_loader.specs.declared.fault.LoadFault.TheVariants.{LinkFailed, NoSummary, BadSummary, Edit, Refused, NoMemory, Clash}
use Rattle.fluid_loader.proofs.Inside.{kept_fetched}
use Rattle.fluid_loader.proofs.Seen.{tells_then, tells_both, tells_of}

-- why a call that only reads stops is why its caller stops
pub read_answers : {A : Type 0} (f : Document → Result A LoadFault) (old mid new : Linked) (fault : LoadFault) → old.faults ≤ mid.faults → ReadStops mid new fault → Answers f old new (Err fault)
read_answers f old mid new (LinkFailed note) le h = record { before = omega (arith, le, h.before); after = h.after; rose = h.rose }
read_answers f old mid new NoSummary le h = absurd h
read_answers f old mid new (BadSummary path) le h = absurd h
read_answers f old mid new (Edit fault) le h = absurd h
read_answers f old mid new (Refused nack) le h = absurd h
read_answers f old mid new NoMemory le h = tt
read_answers f old mid new (Clash id kept bytes) le h = absurd h

pub handed_on : {A : Type 0} (f : Document → Result A LoadFault) (old new : Linked) (r : Result A LoadFault) (fault : LoadFault) → IsErrAnd r (λ e. e ≡ fault) → Answers f old new (Err fault) → Answers f old new r
handed_on f old new (Ok a) fault h s = absurd h
handed_on f old new (Err e) fault h s = subst (λ x. Answers f old new (Err x)) (sym h) s

pub handed_load : (pick : Pick) (old new : Linked) (r : Result AContainer LoadFault) (fault : LoadFault) → IsErrAnd r (λ e. e ≡ fault) → Answers (begun_in pick) old new (Err fault) → LoadDoes pick old new r
handed_load pick old new (Ok a) fault h s = absurd h
handed_load pick old new (Err e) fault h s = subst (λ x. Answers (begun_in pick) old new (Err x)) (sym h) s

abbrev pub begun_with : Pick → Document → Result AContainer LoadFault
begun_with pick document = begun_picked document.held (picked pick document.order)

pub none_picked : (pick : Pick) (old new : Linked) → Tells old.told (λ d. None ≡ picked pick d.order) → Answers (begun_with pick) old new (Err NoSummary)
none_picked pick old new h = tells_then old.told (λ d. None ≡ picked pick d.order) (λ d. begun_with pick d ≡ Err NoSummary) (λ d is. ap (begun_picked d.held) (sym is)) h

pub loaded_by : (pick : Pick) (old mid new : Linked) (first c : AContainer) (number : ℕ) → LoadReads old mid → Tells old.told (λ d. begun_in pick d ≡ Ok first) → PumpDoes first c mid new (Ok number)
    → FetchesIn (λ d. IsOfVersion d.held (picked pick d.order)) old mid → Loaded pick old new c
loaded_by pick old mid new first c number reads begins done inside =
    let messages = done.1.0 in
    let fetched = done.1.1.0 in
    let same = reads.same in
    record {
      first = first;
      messages = messages;
      begins = begins;
      numbered = fetched.numbered;
      all = tells_of old.told mid.told _ (ap (λ (l : Linked). l.told) same) fetched.told;
      taken = done.1.1.1 ∙ ap (λ client. behind client first messages) (ap (λ (l : Linked). l.client) same);
      fetched =
          ap (λ (l : Linked). l.messages) fetched.fetched
          ∙ ap (λ ms. ms ++ map (λ (m : Message). m.number) messages) (ap (λ (l : Linked). l.messages) same);
      objects = kept_fetched (λ d. IsOfVersion d.held (picked pick d.order)) old mid new (ap (λ (l : Linked). l.objects) fetched.fetched) inside;
    }

-- ---- what holds of a container that was loaded

begun_based : StayBased → (d : Document) (o : Option SummaryRef) (first : AContainer) → ((s : SummaryRef) → o ≡ Some s → s.number ≤ length d.order) → begun_picked d.held o ≡ Ok first
    → IsBased d.held first × (first.number ≤ length d.order)
begun_based law d None first within h = cc
begun_based law d (Some s) first within h = by_version (version_at d.held s) refl h
  where
    by_version : (r : Result AVersion (List ℕ)) → version_at d.held s ≡ r → or_bad (begun_of s.number r) ≡ Ok first → IsBased d.held first × (first.number ≤ length d.order)
    by_version (Err path) is k = cc
    by_version (Ok v) is k =
        let made : begun v.channels v.quorum s.number v.base ≡ first = cc in
        subst (λ c. IsBased d.held c × (c.number ≤ length d.order)) made (law.loads d.held s v is, within s refl)

begun_known : StayBased → ArePickedWithin → (pick : Pick) (d : Document) (first : AContainer) → IsDocument d → begun_in pick d ≡ Ok first → IsBased d.held first × (first.number ≤ length d.order)
begun_known law picks Empty d first is h = let made : empty ≡ first = cc in subst (λ c. IsBased d.held c × (c.number ≤ length d.order)) made (law.begins d.held, omega arith)
begun_known law picks Latest d first is h = begun_based law d (picked Latest d.order) first (λ s own. picks Latest d.order s is.in_order own) h
begun_known law picks (Handle id) d first is h = begun_based law d (picked (Handle id) d.order) first (λ s own. picks (Handle id) d.order s is.in_order own) h

at_first : (client : List ℕ) (d : Document) (first : AContainer) → IsBased d.held first → first.number ≤ length d.order → IsBehind client first d first
at_first client d first based within =
    let none : first.number - first.number ≡ 0 = omega arith in
    let start : first ≡ behind client first (between first.number first.number d.order) = ap (λ k. behind client first (take k (drop first.number d.order))) (sym none) in
    record { begins = omega arith; within = within; abreast = subst (AreAbreast first) start (record { channels = refl; quorum = refl; number = refl; head = refl }); based = based }

-- it is a container of the document, and has taken in all of its order
pub loaded_begins : StayBased → ArePickedWithin → (pick : Pick) (old new : Linked) (c : AContainer) → Loaded pick old new c → Tells old.told IsDocument
    → Tells old.told (λ d. (first : AContainer) → begun_in pick d ≡ Ok first → IsBehind old.client first d c × (c.number ≡ length d.order))
loaded_begins law picks pick old new c loaded is = of old.told loaded.begins loaded.all is
  where
    numbers : (n : ℕ) → 1 + n ≡ suc n
    numbers n = omega arith

    whole : (d : Document) → begun_in pick d ≡ Ok loaded.first → drop loaded.first.number d.order ≡ loaded.messages → IsDocument d → (first : AContainer) → begun_in pick d ≡ Ok first
        → IsBehind old.client first d c × (c.number ≡ length d.order)
    whole d begins all doc first says =
        let start = loaded.first in
        let same : start ≡ first = cc in
        let known = begun_known law picks pick d start doc begins in
        let later = drop start.number d.order in
        let next = behind_more law old.client start start d later [] doc (sym (append-nil later)) (at_first old.client d start known.0 known.1) in
        let is_so : behind old.client start later ≡ c = sym (loaded.taken ∙ ap (behind old.client start) (sym all)) in
        let numbered : AreNumberedFrom (suc start.number) later = subst (λ k. AreNumberedFrom k later) (numbers start.number) (drop_numbered 1 start.number d.order doc.in_order.numbered) in
        let number = behind_number old.client later start start.number refl numbered in (
          subst (λ f. IsBehind old.client f d c) same (subst (IsBehind old.client start d) is_so next),
          ap (λ (x : AContainer). x.number) (sym is_so) ∙ omega (arith, number, known.1, length-drop start.number d.order),
        )

    of : (told : Option Document) → Tells told (λ d. begun_in pick d ≡ Ok loaded.first) → Tells told (λ d. drop loaded.first.number d.order ≡ loaded.messages) → Tells told IsDocument
        → Tells told (λ d. (first : AContainer) → begun_in pick d ≡ Ok first → IsBehind old.client first d c × (c.number ≡ length d.order))
    of None begins all doc = tt
    of (Some d) begins all doc = λ first says. whole d begins all doc first says

-- and where it began with an honest summary, the replay of it
pub loaded_replays : IsWholeReplay → (pick : Pick) (old new : Linked) (c : AContainer) → Loaded pick old new c → Tells old.told IsDocument → Tells old.told (λ d. IsHonestPick pick d → HasReplayed d c)
loaded_replays law pick old new c loaded is = of old.told loaded.begins loaded.all is
  where
    of : (told : Option Document) → Tells told (λ d. begun_in pick d ≡ Ok loaded.first) → Tells told (λ d. drop loaded.first.number d.order ≡ loaded.messages) → Tells told IsDocument
        → Tells told (λ d. IsHonestPick pick d → HasReplayed d c)
    of None begins all doc = tt
    of (Some d) begins all doc = λ honest. subst (HasReplayed d) (sym (loaded.taken ∙ ap (behind old.client loaded.first) (sym all))) (law old.client d pick loaded.first doc.in_order honest begins)

-- ---- an honest summary is no bad one

picked_read : IsHonestRead → ArePickedWithin → (d : Document) (pick : Pick) (o : Option SummaryRef) (path : List ℕ) → picked pick d.order ≡ o → IsDocument d → IsHonestPick pick d
    → begun_picked d.held o ≡ Err (BadSummary path) → ⊥
picked_read law picks d pick None path own is text h = cc
picked_read law picks d pick (Some s) path own is text h =
    let read = law d s is (picks pick d.order s is.in_order own) (text s own) in
    let begins : begun_picked d.held (Some s) ≡ Ok (begun read.0.channels read.0.quorum s.number read.0.base) = ap (λ r. or_bad (begun_of s.number r)) read.1 in
    cc

never_bad : IsHonestRead → ArePickedWithin → (pick : Pick) (d : Document) (path : List ℕ) → IsDocument d → IsHonestPick pick d → begun_in pick d ≡ Err (BadSummary path) → ⊥
never_bad law picks Empty d path is text h = cc
never_bad law picks Latest d path is text h = picked_read law picks d Latest (picked Latest d.order) path refl is text h
never_bad law picks (Handle id) d path is text h = picked_read law picks d (Handle id) (picked (Handle id) d.order) path refl is text h

other_fault : (told : Option Document) (pick : Pick) (fault : LoadFault) → IsNoBadSummary fault → Tells told (λ d. IsHonestPick pick d → IsNoBadSummary fault)
other_fault None pick fault h = tt
other_fault (Some d) pick fault h = λ text. h

pub begin_is_no_bad : IsHonestRead → ArePickedWithin → (pick : Pick) (old new : Linked) (fault : LoadFault) → Tells old.told IsDocument → Answers {A = AContainer} (begun_in pick) old new (Err fault)
    → Tells old.told (λ d. IsHonestPick pick d → IsNoBadSummary fault)
begin_is_no_bad law picks pick old new (BadSummary path) is h =
    tells_both old.told IsDocument (λ d. begun_in pick d ≡ Err (BadSummary path)) (λ d. IsHonestPick pick d → IsNoBadSummary (BadSummary path))
    (λ d doc said text other same. never_bad law picks pick d path doc text said) is h
begin_is_no_bad law picks pick old new (LinkFailed note) is h = other_fault old.told pick (LinkFailed note) (λ path same. cc)
begin_is_no_bad law picks pick old new NoSummary is h = other_fault old.told pick NoSummary (λ path same. cc)
begin_is_no_bad law picks pick old new (Edit fault) is h = absurd h
begin_is_no_bad law picks pick old new (Refused nack) is h = absurd h
begin_is_no_bad law picks pick old new NoMemory is h = other_fault old.told pick NoMemory (λ path same. cc)
begin_is_no_bad law picks pick old new (Clash id kept bytes) is h = absurd h

pub read_is_no_bad : (pick : Pick) (told : Option Document) (mid new : Linked) (fault : LoadFault) → ReadStops mid new fault → Tells told (λ d. IsHonestPick pick d → IsNoBadSummary fault)
read_is_no_bad pick told mid new (LinkFailed note) h = other_fault told pick (LinkFailed note) (λ path same. cc)
read_is_no_bad pick told mid new NoSummary h = absurd h
read_is_no_bad pick told mid new (BadSummary path) h = absurd h
read_is_no_bad pick told mid new (Edit fault) h = absurd h
read_is_no_bad pick told mid new (Refused nack) h = absurd h
read_is_no_bad pick told mid new NoMemory h = other_fault told pick NoMemory (λ path same. cc)
read_is_no_bad pick told mid new (Clash id kept bytes) h = absurd h

pub handed_bad : (pick : Pick) (told : Option Document) (r : Result AContainer LoadFault) (fault : LoadFault) → IsErrAnd r (λ e. e ≡ fault) → Tells told (λ d. IsHonestPick pick d → IsNoBadSummary fault)
    → IfErr r (λ e. Tells told (λ d. IsHonestPick pick d → IsNoBadSummary e))
handed_bad pick told (Ok c) fault is h = absurd is
handed_bad pick told (Err e) fault is h = subst (λ f. Tells told (λ d. IsHonestPick pick d → IsNoBadSummary f)) (sym is) h

-- ---- the client number

-- messages leave it
last_behind : (client : List ℕ) (c : AContainer) (ms : List Message) → (behind client c ms).last ≡ c.last
last_behind client c [] = refl
last_behind client c (m ∷ ms) = last_behind client (taken_by client c m) ms

pub pumped_fresh : (old new : AContainer) (before after : Linked) (number : ℕ) → PumpDoes old new before after (Ok number) → old.last ≡ 0 → new.last ≡ 0
pumped_fresh old new before after number does fresh = ap (λ c. c.last) does.1.1.1 ∙ last_behind before.client old does.1.0 ∙ fresh
