-- A container that follows an order, message after message.
use Rattle.std.proofs.Common.{◌≡◌, ℕ, suc, ◌+◌, List, ◌++◌, take, drop, Result, Ok, Err, IfOk, refl, sym, ap, subst, ◌∙◌, arith, length-append, length-drop}
use Rattle.std.proofs.lemmas.List.{take-append-drop, take-append-le}
use Rattle.fluid_io.specs.Causes.{Tells}
use Rattle.fluid_types.specs.Order.{AreFirst, AreNumberedFrom}
use Rattle.fluid_types.specs.Quorum.{quorum_of}
use Rattle.fluid_types.specs.declared.messages.Message.{Message}
use Rattle.fluid_quorum.specs.Laws.{GoesOn}
use Rattle.fluid_edits.specs.Replay.{no_channels, replay}
use Rattle.fluid_edits.proofs.Replays.{replayed_on_law}
use Rattle.fluid_loader.specs.Calls.{begun_in, PumpDoes}
use Rattle.fluid_loader.specs.Container.{AContainer, behind}
use Rattle.fluid_loader.specs.Laws.{between, IsBehind, IsHonestPick, Follows, HasTakenAll, GoOnFollowing}
use Rattle.fluid_loader.specs.Link.{Document, IsOrder, IsDocument, Linked}
use Rattle.fluid_loader.specs.declared.fault.LoadFault.{LoadFault}
use Rattle.fluid_loader.specs.declared.link.Pick.{Pick}
use Rattle.fluid_loader.proofs.Orders.{prefix_numbered, drop_numbered, behind_number, take_between}
use Rattle.fluid_loader.proofs.Replayed.{behind_channels, behind_quorum}
use Rattle.fluid_loader.proofs.Seen.{tells_both}
use Rattle.fluid_loader.proofs.Stays.{behind_grown}

longer_by : (order more : List Message) (c : AContainer) → Follows order c → Follows (order ++ more) c
longer_by order more c f =
    let same : take c.number (order ++ more) ≡ take c.number order = take-append-le c.number order more f.within in
    record {
      within = omega (arith, f.within, length-append order more);
      channels = f.channels ∙ ap (replay no_channels) (sym same);
      quorum = f.quorum ∙ ap quorum_of (sym same);
    }

goes_by : GoesOn → (client : List ℕ) (document : Document) (first c : AContainer) → IsOrder document.order → Follows document.order first → IsBehind client first document c → Follows document.order c
goes_by law client document first c is_order f b =
    let order = document.order in
    let n = c.number in
    let later = between first.number n order in
    let prefix = take first.number order in
    let whole : prefix ++ later ≡ take n order = take_between first.number n order b.begins in
    let numbered : AreFirst (prefix ++ later) = subst AreFirst (sym whole) (prefix_numbered 1 (take n order) (drop n order) (subst AreFirst (sym (take-append-drop n order)) is_order.numbered)) in
    record {
      within = b.within;
      channels =
          b.abreast.channels ∙ behind_channels client first later ∙ ap (λ ch. replay ch later) f.channels ∙ sym (replayed_on_law no_channels prefix later) ∙ ap (replay no_channels) whole;
      quorum = b.abreast.quorum ∙ behind_quorum law client first prefix later numbered f.quorum ∙ ap quorum_of whole;
    }

-- ---- all of it

whole_behind : GoesOn → (client : List ℕ) (d : Document) (c : AContainer) → IsOrder d.order → Follows d.order c → HasTakenAll d (behind client c (drop c.number d.order))
whole_behind law client d c is f =
    let n = c.number in
    let prefix = take n d.order in
    let later = drop n d.order in
    let all = take-append-drop n d.order in
    let start : 1 + n ≡ suc n = omega arith in
    let numbered : AreNumberedFrom (suc n) later = subst (λ k. AreNumberedFrom k later) start (drop_numbered 1 n d.order is.numbered) in
    record {
      number = omega (arith, behind_number client later c n refl numbered, f.within, length-drop n d.order);
      channels = behind_channels client c later ∙ ap (λ ch. replay ch later) f.channels ∙ sym (replayed_on_law no_channels prefix later) ∙ ap (replay no_channels) all;
      quorum = behind_quorum law client c prefix later (subst AreFirst (sym all) is.numbered) f.quorum ∙ ap quorum_of all;
    }

-- behind a pump that answers Ok
pub taken_all : GoesOn → (old new : AContainer) (before after : Linked) (r : Result ℕ LoadFault) → Tells before.told IsDocument → PumpDoes old new before after r
    → IfOk r (λ _. Tells before.told (λ d. Follows d.order old → HasTakenAll d new))
taken_all law old new before after (Err fault) is h = tt
taken_all law old new before after (Ok number) is h =
    tells_both before.told IsDocument (λ d. drop old.number d.order ≡ h.1.0) (λ d. Follows d.order old → HasTakenAll d new)
    (λ d doc split f. subst (HasTakenAll d) (ap (behind before.client old) split ∙ sym h.1.1.1) (whole_behind law before.client d old doc.in_order f)) is h.1.1.0.told

pub go_on : ((document : Document) (pick : Pick) (first : AContainer) → IsOrder document.order → IsHonestPick pick document → begun_in pick document ≡ Ok first → Follows document.order first) → GoesOn
    → GoOnFollowing
go_on honest law = record { begins = λ order. record { within = omega arith; channels = refl; quorum = refl }; honest = honest; longer = longer_by; grows = behind_grown; goes_on = goes_by law }
