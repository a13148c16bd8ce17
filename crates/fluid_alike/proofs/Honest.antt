-- Summaries of a document that are proposed and acknowledged honestly.
use Rattle.std.proofs.Common.{◌≡◌, ℕ, ◌≤◌, arith, true, false, cond, List, [], ◌∷◌, ◌++◌, length, All, Some, None, option_to_list, sym, ap, subst, ◌∙◌, append-nil, length-append}
use Rattle.std.proofs.lemmas.List.Elements.{All-nil, All-cons, All-append, All-weaker}
use Rattle.std.proofs.lemmas.List.{take-append-le}
use Rattle.fluid_types.specs.declared.messages.Message.{Message}
use Rattle.fluid_types.specs.Quorum.{quorum_of}
use Rattle.fluid_types.specs.Blobs.{blobs, blobs_of}
use Rattle.fluid_tree.specs.declared.id.SummaryRef.{SummaryRef}
use Rattle.fluid_rules.specs.Scribe.{is_summarize, is_ack, proposed_by, reference_of, ack_of, acknowledged, acks, protocol}
use Rattle.fluid_rules.specs.ScribeLaws.{AcksGrow}
use Rattle.fluid_rules.specs.declared.answers.Proposed.{Proposed}
use Rattle.fluid_edits.specs.Replay.{no_channels, replay}
use Rattle.fluid_runtime.specs.AppTree.{app_tree}
use Rattle.fluid_store.specs.Held.{Held, Keeps}
use Rattle.fluid_store.specs.Laws.{GoesOnStanding}
use Rattle.fluid_store.specs.Standing.{Stands}
use Rattle.fluid_loader.specs.Laws.{replayed, version_tree, IsHonest}

-- ---- what is honest

-- a summarize asks for the replay of the first messages up to its reference, which is one of the order
pub record IsProposal (held : Held) (order : List Message) (m : Message) : Type 0 where
  pub within : reference_of m ≤ length order
  pub stands : (p : Proposed) → proposed_by m ≡ Some p → (length p.app ≡ 20) × Stands held p.app (app_tree (replayed order (reference_of m)))

-- an acknowledged summary is honest, and of a number of the order
pub record IsAckHonest (held : Held) (order : List Message) (s : SummaryRef) : Type 0 where
  pub within : s.number ≤ length order
  pub honest : IsHonest held order s

abbrev pub IsProposed : Held → List Message → Message → Type 0
IsProposed held order m = is_summarize m.kind ≡ true → IsProposal held order m

pub record AllHonest (held : Held) (order : List Message) : Type 0 where
  pub proposed : All (IsProposed held order) order
  pub acked : All (IsAckHonest held order) (acks order)

-- what is replayed up to a number of the order stays
pub replayed_on : (order more : List Message) (n : ℕ) → n ≤ length order → replayed order n ≡ replayed (order ++ more) n
replayed_on order more n fits = sym (ap (replay no_channels) (take-append-le n order more fits))

-- ---- an order that goes on, over a store that keeps what it holds

module _ (standing : GoesOnStanding) (old new : Held) (keeps : Keeps old new) (order more : List Message) where
  blobs_stay : (n : ℕ) → n ≤ length order → blobs order n ≡ blobs (order ++ more) n
  blobs_stay n fits = sym (ap (λ ms. blobs_of (quorum_of ms)) (take-append-le n order more fits))

  longer : (n : ℕ) → n ≤ length order → n ≤ length (order ++ more)
  longer n fits = omega (arith, fits, length-append order more)

  proposal_stays : (m : Message) → IsProposed old order m → IsProposed new (order ++ more) m
  proposal_stays m is kind = let was = is kind in record {
    within = longer (reference_of m) was.within;
    stands = λ p asked. (
      (was.stands p asked).0,
      subst (λ c. Stands new p.app (app_tree c)) (replayed_on order more (reference_of m) was.within)
          (standing old new p.app (app_tree (replayed order (reference_of m))) keeps (was.stands p asked).1),
    );
  }

  ack_stays : (s : SummaryRef) → IsAckHonest old order s → IsAckHonest new (order ++ more) s
  ack_stays s was = record {
    within = longer s.number was.within;
    honest =
        subst (λ c. Stands new s.handle (version_tree (app_tree c) (protocol (blobs (order ++ more) s.number)))) (replayed_on order more s.number was.within)
        (subst (λ b. Stands new s.handle (version_tree (app_tree (replayed order s.number)) (protocol b))) (blobs_stay s.number was.within)
        (standing old new s.handle (version_tree (app_tree (replayed order s.number)) (protocol (blobs order s.number))) keeps was.honest));
  }

  proposals_stay : All (IsProposed old order) order → All (IsProposed new (order ++ more)) order
  proposals_stay all = All-weaker (IsProposed old order) (IsProposed new (order ++ more)) proposal_stays order all

  acks_stay : (ss : List SummaryRef) → All (IsAckHonest old order) ss → All (IsAckHonest new (order ++ more)) ss
  acks_stay ss all = All-weaker (IsAckHonest old order) (IsAckHonest new (order ++ more)) ack_stays ss all

pub ack_on : GoesOnStanding → (old new : Held) → Keeps old new → (order more : List Message) (s : SummaryRef) → IsAckHonest old order s → IsAckHonest new (order ++ more) s
ack_on standing old new keeps order more s was = ack_stays standing old new keeps order more s was

-- over another store alone
pub kept_honest : GoesOnStanding → (old new : Held) → Keeps old new → (order : List Message) → AllHonest old order → AllHonest new order
kept_honest standing old new keeps order was =
    let same : order ++ [] ≡ order = append-nil order in
    record {
      proposed = subst (λ o. All (IsProposed new o) order) same (proposals_stay standing old new keeps order [] was.proposed);
      acked = subst (λ o. All (IsAckHonest new o) (acks order)) same (acks_stay standing old new keeps order [] (acks order) was.acked);
    }

-- with one message more
pub one_more : GoesOnStanding → AcksGrow → (old new : Held) → Keeps old new → (order : List Message) (m : Message) → AllHonest old order
    → IsProposed new (order ++ m ∷ []) m → All (IsAckHonest new (order ++ m ∷ [])) (option_to_list (ack_of order m)) → AllHonest new (order ++ m ∷ [])
one_more standing grow old new keeps order m was asks answers = record {
  proposed =
      All-append (IsProposed new (order ++ m ∷ [])) order (m ∷ []) (proposals_stay standing old new keeps order (m ∷ []) was.proposed)
      (All-cons (IsProposed new (order ++ m ∷ [])) m [] asks (All-nil (IsProposed new (order ++ m ∷ []))));
  acked =
      subst (All (IsAckHonest new (order ++ m ∷ []))) (sym (grow order m))
      (All-append (IsAckHonest new (order ++ m ∷ [])) (acks order) (option_to_list (ack_of order m)) (acks_stay standing old new keeps order (m ∷ []) (acks order) was.acked) answers);
}

-- what is no summaryAck acknowledges nothing
pub no_ack : (order : List Message) (m : Message) → is_ack m.kind ≡ false → ack_of order m ≡ None
unfolding ack_of
no_ack order m kind = ap (λ b. cond b (acknowledged order m) None) kind

-- with one more that neither asks for a summary nor acknowledges one
pub one_plain_more : GoesOnStanding → AcksGrow → (held : Held) (order : List Message) (m : Message) → AllHonest held order → is_summarize m.kind ≡ false → is_ack m.kind ≡ false
    → AllHonest held (order ++ m ∷ [])
one_plain_more standing grow held order m was asks acks =
    one_more standing grow held held (λ id bytes has. has) order m was (λ is. absurd (let two : true ≡ false = sym is ∙ asks in cc))
    (subst (λ o. All (IsAckHonest held (order ++ m ∷ [])) (option_to_list o)) (sym (no_ack order m acks)) (All-nil (IsAckHonest held (order ++ m ∷ []))))
