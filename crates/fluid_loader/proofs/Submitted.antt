-- What edits, noops and summarizes leave.
use Rattle.std.proofs.Common.{◌≡◌, inl, inr, ℕ, List, Option, Some, None, Result, Ok, Err, refl, sym, ap, subst}
use Rattle.std.specs.Result.{IsErrAnd}
use Rattle.fluid_io.specs.Causes.{Tells}
use Rattle.fluid_tree.specs.Summary.{Summary}
use Rattle.fluid_types.specs.declared.entries.Submission.{Submission}
use Rattle.fluid_edits.specs.declared.edit.Edit.{Edit}
use Rattle.fluid_runtime.specs.AppTree.{app_tree, tree_since}
use Rattle.fluid_store.specs.Laws.{GoesOnStanding}
use Rattle.fluid_store.specs.Standing.{Stands}
use Rattle.fluid_loader.specs.Calls.{Submits, Proposes, IsUndone, Edits, EditDoes, UploadsTree, UploadEnds, SummarizeDoes, or_failed, counted_by, since, summarize_of}
use Rattle.fluid_loader.specs.Container.{AContainer}
use Rattle.fluid_loader.specs.Laws.{IsBased, IsBehind, StaysBehind, StayBased, IsWholeUpload, Grows}
use Rattle.fluid_loader.specs.Link as link
use Rattle.fluid_loader.specs.Link.{Document, IsDocument, Linked, BothTell, StandsBehind}
use Rattle.fluid_loader.specs.declared.link.LinkFault.{LinkFault}
use Rattle.fluid_loader.specs.declared.fault.LoadFault.{LoadFault}
use Rattle.fluid_loader.specs.declared.fault.LoadFault.TheVariants.{LinkFailed, NoSummary, BadSummary, Edit as EditRefused, Refused, NoMemory, Clash}
use Rattle.fluid_loader.proofs.Stays.{both_then, both_so, both_same, submits_grow, uploads_grow, behind_grown, behind_own}

-- ---- calls that leave the order taken in

pub same_stays : (c new : AContainer) (before after : Linked) → new ≡ c → BothTell Grows before.told after.told → StaysBehind c new before after
same_stays c new before after is grows first =
    both_so Grows (λ d e. IsBehind before.client first d c → IsBehind before.client first e new)
    (λ d e g b. subst (IsBehind before.client first e) (sym is) (behind_grown before.client first c d e g b)) before.told after.told grows

pub own_stays : (c new : AContainer) (before after : Linked) (pending : List Edit) (last : ℕ) → new ≡ record c { pending = pending; last = last } → BothTell Grows before.told after.told → StaysBehind c new before after
own_stays c new before after pending last is grows first =
    both_so Grows (λ d e. IsBehind before.client first d c → IsBehind before.client first e new)
    (λ d e g b. subst (IsBehind before.client first e) (sym is) (behind_own before.client first c e pending last (behind_grown before.client first c d e g b))) before.told after.told grows

pub undone_stays : (c new : AContainer) (before after : Linked) → IsUndone c new before after → StaysBehind c new before after
undone_stays c new before after h first =
    both_same (λ d e. IsBehind before.client first d c → IsBehind before.client first e new) before.told after.told (ap (λ (l : Linked). l.told) h.link) (of before.told)
  where
    of : (told : Option Document) → Tells told (λ d. IsBehind before.client first d c → IsBehind before.client first d new)
    of None = tt
    of (Some d) = λ b. subst (IsBehind before.client first d) (sym h.container) b

pub stays_then : (a b c : AContainer) (x y z : Linked) → y.client ≡ x.client → StaysBehind a b x y → StaysBehind b c y z → StaysBehind a c x z
stays_then a b c x y z same h k first =
    both_then (λ d e. IsBehind x.client first d a → IsBehind x.client first e b) (λ d e. IsBehind y.client first d b → IsBehind y.client first e c)
    (λ d e. IsBehind x.client first d a → IsBehind x.client first e c)
    (λ d e f p q at. subst (λ client. IsBehind client first f c) same (q (subst (λ client. IsBehind client first e b) (sym same) (p at)))) x.told y.told z.told (h first) (k first)

pub grown_by : (s : Submission) (before after : Linked) (r : Result (Unit {0}) LoadFault) → Submits s before after r → BothTell Grows before.told after.told
grown_by s before after r h = submits_grow s before after h.given h.submitted

-- ---- an edit

edits_stay : (c new : AContainer) (edit : Edit) (before after : Linked) (r : Result (Unit {0}) LoadFault) → Edits c new edit before after r → StaysBehind c new before after
edits_stay c new edit before after (Ok done) h = own_stays c new before after _ _ h.leaves (grown_by _ before after _ h.submits)
edits_stay c new edit before after (Err (LinkFailed note)) h = own_stays c new before after _ _ h.leaves (grown_by _ before after _ h.submits)
edits_stay c new edit before after (Err NoSummary) h = own_stays c new before after _ _ h.leaves (grown_by _ before after _ h.submits)
edits_stay c new edit before after (Err (BadSummary path)) h = own_stays c new before after _ _ h.leaves (grown_by _ before after _ h.submits)
edits_stay c new edit before after (Err (EditRefused fault)) h = own_stays c new before after _ _ h.leaves (grown_by _ before after _ h.submits)
edits_stay c new edit before after (Err (Refused nack)) h = same_stays c new before after h.leaves (grown_by _ before after _ h.submits)
edits_stay c new edit before after (Err NoMemory) h = own_stays c new before after _ _ h.leaves (grown_by _ before after _ h.submits)
edits_stay c new edit before after (Err (Clash id kept bytes)) h = own_stays c new before after _ _ h.leaves (grown_by _ before after _ h.submits)

pub edit_stays : (c new : AContainer) (edit : Edit) (before after : Linked) (r : Result (Unit {0}) LoadFault) → EditDoes c new edit before after r → StaysBehind c new before after
edit_stays c new edit before after (Ok done) h = edits_stay c new edit before after (Ok done) h
edit_stays c new edit before after (Err (LinkFailed note)) h = edits_stay c new edit before after (Err (LinkFailed note)) h
edit_stays c new edit before after (Err NoSummary) h = edits_stay c new edit before after (Err NoSummary) h
edit_stays c new edit before after (Err (BadSummary path)) h = edits_stay c new edit before after (Err (BadSummary path)) h
edit_stays c new edit before after (Err (EditRefused fault)) h = undone_stays c new before after h.1
edit_stays c new edit before after (Err (Refused nack)) h = edits_stay c new edit before after (Err (Refused nack)) h
edit_stays c new edit before after (Err NoMemory) (inl h) = undone_stays c new before after h
edit_stays c new edit before after (Err NoMemory) (inr h) = edits_stay c new edit before after (Err NoMemory) h
edit_stays c new edit before after (Err (Clash id kept bytes)) h = edits_stay c new edit before after (Err (Clash id kept bytes)) h

-- ---- an upload

-- the upload that answers an id is one that put
put_ok : (a b : ℕ) (put : Result (List ℕ) LinkFault) (id : List ℕ) → Ok id ≡ or_failed a b put → put ≡ Ok id
put_ok a b (Ok own) id h = let same : own ≡ id = cc in ap Ok same
put_ok a b (Err fault) id h = cc

pub uploads_stay : (c : AContainer) (before after : Linked) (r : Result (List ℕ) LoadFault) → UploadsTree c before after r → BothTell Grows before.told after.told
uploads_stay c before after r h = uploads_grow (tree_since c.changed c.channels) c.base before after h.put h.uploads

done_stands : (node : Summary) (base : Option (List ℕ)) (before after : Linked) (put : Result (List ℕ) LinkFault) (id : List ℕ) → put ≡ Ok id → link.Uploads node base before after put
    → BothTell (StandsBehind node base id) before.told after.told
done_stands node base before after put id is h = (subst (link.Uploads node base before after) is h).says.1.1

pub uploaded_behind : (c : AContainer) (before after : Linked) (id : List ℕ) → UploadsTree c before after (Ok id) → BothTell (StandsBehind (tree_since c.changed c.channels) c.base id) before.told after.told
uploaded_behind c before after id h = done_stands (tree_since c.changed c.channels) c.base before after h.put id (put_ok before.faults after.faults h.put id h.answer) h.uploads

pub uploaded_stays : IsWholeUpload → StayBased → (c : AContainer) (before after : Linked) (id : List ℕ) → UploadsTree c before after (Ok id) → Tells after.told IsDocument → StaysBehind c (since c id) before after
uploaded_stays whole law c before after id h is first = of before.told after.told (uploads_stay c before after (Ok id) h) (uploaded_behind c before after id h) is
  where
    behind_since : (f : AContainer) (d e : Document) → IsBehind before.client f e c → IsBased e.held (since c id) → IsBehind before.client f e (since c id)
    behind_since f d e now based = record {
      begins = now.begins;
      within = now.within;
      abreast = record { channels = now.abreast.channels; quorum = now.abreast.quorum; number = now.abreast.number; head = now.abreast.head };
      based = based;
    }

    of : (x y : Option Document) → BothTell Grows x y → BothTell (StandsBehind (tree_since c.changed c.channels) c.base id) x y → Tells y IsDocument
        → BothTell (λ d e. IsBehind before.client first d c → IsBehind before.client first e (since c id)) x y
    of None None g p k = tt
    of None (Some e) g p k = absurd g
    of (Some d) None g p k = absurd g
    of (Some d) (Some e) g p k = λ b. behind_since first d e (behind_grown before.client first c d e g b) (law.uploaded e.held c id k.short b.based.named (whole c d.held e.held id b.based p))

pub upload_ends_stay : (c new : AContainer) (before after : Linked) (fault : LoadFault) → new ≡ c → UploadEnds c before after (Err fault) → StaysBehind c new before after
upload_ends_stay c new before after (LinkFailed note) same h = same_stays c new before after same (uploads_stay c before after _ h)
upload_ends_stay c new before after NoSummary same h = same_stays c new before after same (uploads_stay c before after _ h)
upload_ends_stay c new before after (BadSummary path) same h = same_stays c new before after same (uploads_stay c before after _ h)
upload_ends_stay c new before after (EditRefused fault) same h = same_stays c new before after same (uploads_stay c before after _ h)
upload_ends_stay c new before after (Refused nack) same h = same_stays c new before after same (uploads_stay c before after _ h)
upload_ends_stay c new before after NoMemory same (inl h) = undone_stays c new before after (record { container = same; link = h })
upload_ends_stay c new before after NoMemory same (inr h) = same_stays c new before after same (uploads_stay c before after _ h)
upload_ends_stay c new before after (Clash id kept bytes) same h = same_stays c new before after same (uploads_stay c before after _ h)

-- ---- a proposal

own_or_same : (c new : AContainer) (s : Submission) (before after : Linked) (r : Result (Unit {0}) LoadFault) → Submits s before after r → new ≡ counted_by c r → StaysBehind c new before after
own_or_same c new s before after (Ok done) h is = own_stays c new before after _ _ is (grown_by s before after _ h)
own_or_same c new s before after (Err (LinkFailed note)) h is = own_stays c new before after _ _ is (grown_by s before after _ h)
own_or_same c new s before after (Err NoSummary) h is = own_stays c new before after _ _ is (grown_by s before after _ h)
own_or_same c new s before after (Err (BadSummary path)) h is = own_stays c new before after _ _ is (grown_by s before after _ h)
own_or_same c new s before after (Err (EditRefused fault)) h is = own_stays c new before after _ _ is (grown_by s before after _ h)
own_or_same c new s before after (Err (Refused nack)) h is = same_stays c new before after is (grown_by s before after _ h)
own_or_same c new s before after (Err NoMemory) h is = own_stays c new before after _ _ is (grown_by s before after _ h)
own_or_same c new s before after (Err (Clash id kept bytes)) h is = own_stays c new before after _ _ is (grown_by s before after _ h)

pub proposal_stays : (c new : AContainer) (s : Submission) (before after : Linked) (r : Result (Unit {0}) LoadFault) → Proposes c new s before after r → StaysBehind c new before after
proposal_stays c new s before after (Ok done) h = own_or_same c new s before after (Ok done) h.submits h.leaves
proposal_stays c new s before after (Err (LinkFailed note)) h = own_or_same c new s before after (Err (LinkFailed note)) h.submits h.leaves
proposal_stays c new s before after (Err NoSummary) h = own_or_same c new s before after (Err NoSummary) h.submits h.leaves
proposal_stays c new s before after (Err (BadSummary path)) h = own_or_same c new s before after (Err (BadSummary path)) h.submits h.leaves
proposal_stays c new s before after (Err (EditRefused fault)) h = own_or_same c new s before after (Err (EditRefused fault)) h.submits h.leaves
proposal_stays c new s before after (Err (Refused nack)) h = own_or_same c new s before after (Err (Refused nack)) h.submits h.leaves
proposal_stays c new s before after (Err NoMemory) (inl h) = undone_stays c new before after h
proposal_stays c new s before after (Err NoMemory) (inr h) = own_or_same c new s before after (Err NoMemory) h.submits h.leaves
proposal_stays c new s before after (Err (Clash id kept bytes)) h = own_or_same c new s before after (Err (Clash id kept bytes)) h.submits h.leaves

pub beats_stay : (c new : AContainer) (s : Submission) (before after : Linked) (r : Result (Unit {0}) LoadFault) → Submits s before after r → new ≡ counted_by c r → StaysBehind c new before after
beats_stay c new s before after r h is = own_or_same c new s before after r h is

-- what was put stands behind the proposal as well
pub summarized_stands : IsWholeUpload → GoesOnStanding → (c : AContainer) (before between after : Linked) (id : List ℕ) → UploadsTree c before between (Ok id) → BothTell Grows between.told after.told
    → Tells before.told (λ d. IsBased d.held c → Tells after.told (λ now. Stands now.held id (app_tree c.channels)))
summarized_stands whole goes c before between after id up grows = of before.told between.told after.told (uploaded_behind c before between id up) grows
  where
    of : (x y z : Option Document) → BothTell (StandsBehind (tree_since c.changed c.channels) c.base id) x y → BothTell Grows y z
        → Tells x (λ d. IsBased d.held c → Tells z (λ now. Stands now.held id (app_tree c.channels)))
    of None y z p g = tt
    of (Some d) None z p g = absurd p
    of (Some d) (Some b) None p g = absurd g
    of (Some d) (Some b) (Some e) p g = λ based. goes b.held e.held id (app_tree c.channels) g.held (whole c d.held b.held id based p)

-- ---- a summarize

handed : (old new : AContainer) (before after : Linked) (r : Result (List ℕ) LoadFault) (fault : LoadFault) → IsErrAnd r (λ e. e ≡ fault) → SummarizeDoes old new before after (Err fault)
    → SummarizeDoes old new before after r
handed old new before after (Ok id) fault h s = absurd h
handed old new before after (Err e) fault h s = subst (λ f. SummarizeDoes old new before after (Err f)) (sym h) s

not_put : (old new : AContainer) (before after : Linked) (fault : LoadFault) → new ≡ old → UploadEnds old before after (Err fault) → SummarizeDoes old new before after (Err fault)
not_put old new before after (LinkFailed note) same h = inr (inl (record { failed = h; leaves = same }))
not_put old new before after NoSummary same h = inr (inl (record { failed = h; leaves = same }))
not_put old new before after (BadSummary path) same h = inr (inl (record { failed = h; leaves = same }))
not_put old new before after (EditRefused fault) same h = inr (inl (record { failed = h; leaves = same }))
not_put old new before after (Refused nack) same h = inr (inl (record { failed = h; leaves = same }))
not_put old new before after NoMemory same (inl h) = inl (refl, record { container = same; link = h })
not_put old new before after NoMemory same (inr h) = inr (inl (record { failed = h; leaves = same }))
not_put old new before after (Clash id kept bytes) same h = inr (inl (record { failed = h; leaves = same }))

pub upload_stops : (old new : AContainer) (before after : Linked) (r : Result (List ℕ) LoadFault) (fault : LoadFault) → IsErrAnd r (λ e. e ≡ fault) → new ≡ old → UploadEnds old before after (Err fault)
    → SummarizeDoes old new before after r
upload_stops old new before after r fault handed_on same h = handed old new before after r fault handed_on (not_put old new before after fault same h)

pub propose_stops : (old mid new : AContainer) (id : List ℕ) (s : Submission) (a b c : Linked) (r : Result (List ℕ) LoadFault) (fault : LoadFault) → IsErrAnd r (λ e. e ≡ fault) → mid ≡ since old id
    → s ≡ summarize_of old id → UploadsTree old a b (Ok id) → Proposes mid new s b c (Err fault) → SummarizeDoes old new a c r
propose_stops old mid new id s a b c r fault handed_on is own up h =
    handed old new a c r fault handed_on
    (inr (inr (record { id = id; between = b; uploaded = up; ends = subst (λ t. Proposes (since old id) new t b c (Err fault)) own (subst (λ m. Proposes m new s b c (Err fault)) is h) })))
