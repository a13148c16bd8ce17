-- What a container has of its document stays, and where it begins.
use Rattle.std.proofs.Common.{◌≡◌, ℕ, ◌+◌, arith, false, if◌then◌else◌, List, [], ◌∷◌, ◌++◌, length, drop, All, Option, Some, None, Result, Ok, Err, refl, sym, ap, subst, cond, ◌∙◌}
use Rattle.std.specs.Prelude.{is_some, option_map, count_by}
use Rattle.std.proofs.lemmas.List.{drop-append-le}
use Rattle.std.proofs.lemmas.List.Elements.{All-head, All-tail}
use Rattle.std.proofs.lemmas.List.Sums.{sum_by-append}
use Rattle.std.proofs.Math.Seq.{drop-append_seam}
use Rattle.fluid_types.specs.Ledger.{Ledger, order}
use Rattle.fluid_tree.specs.declared.id.SummaryRef.{SummaryRef}
use Rattle.fluid_rules.specs.Rules.{verdict}
use Rattle.fluid_rules.specs.Scribe.{last_ack}
use Rattle.fluid_rules.specs.ScribeLaws.{OrdersAreAnsweredInTurn}
use Rattle.fluid_rules.proofs.Legal.{ledger-legal, ledger-push}
use Rattle.fluid_edits.specs.Replay.{replay}
use Rattle.fluid_loader.specs.Link.{picked}
use Rattle.fluid_loader.specs.Version.{AVersion, version_at}
use Rattle.fluid_loader.specs.declared.link.Pick.{Pick}
use Rattle.fluid_loader.specs.declared.link.Pick.TheVariants.{Empty, Latest, Handle}
use Rattle.fluid_voice.specs.declared.refusals.ConnectRefusal.{ConnectRefusal}
use Rattle.fluid_transcript.specs.World.{Document, Container, World, ledger_of, with_entries, document}
use Rattle.fluid_transcript.specs.Containers.{id_of, is_submission_of, is_taken_from, last, Loading, turned_away, no_summary, bad_summary, loaded, join_for, joining, join_refusal, begun_with, begun_from, begun_at, loading_by}
use Rattle.fluid_transcript.specs.Laws.{ContainersStay, NothingWasTaken, HeadIsSinceBase}
use Rattle.fluid_transcript.specs.Sound.{ledger_in}
use Rattle.fluid_transcript.proofs.Begins.{first_stay}
use Rattle.fluid_transcript.proofs.Fitting.{length_ledger}
use Rattle.fluid_transcript.proofs.Acks.{head_since}

none_taken : (id : List ℕ) (more : Ledger) → All (λ entry. is_submission_of id entry.0 ≡ false) more → count_by (is_taken_from id) more ≡ 0
none_taken id [] all = refl
none_taken id (entry ∷ more) all = rw (All-head (λ e. is_submission_of id e.0 ≡ false) entry more all) (none_taken id more (All-tail (λ e. is_submission_of id e.0 ≡ false) entry more all))

pub containers_stay : ContainersStay
containers_stay k l more number entries =
    let first = first_stay l more k.number number in
    record {
      channels = ap (λ ms. replay k.from (drop k.base ms)) first;
      head = ap (λ ms. option_map (λ ack. ack.handle) (last_ack ms)) first;
      last = λ all.
          ap (count_by (is_taken_from (id_of k))) (drop-append-le k.entries l more entries)
          ∙ sum_by-append (λ entry. cond (is_taken_from (id_of k) entry) 1 0) (drop k.entries l) more
          ∙ ap (λ n. count_by (is_taken_from (id_of k)) (drop k.entries l) + n) (none_taken (id_of k) more all)
          ∙ omega arith;
    }

-- ---- behind a load

-- behind the join there is nothing but it
behind_join : (w : World) (d : Document) (k : Container) → k.entries ≡ length d.raws → last (ledger_of (with_entries (join_for w (ledger_of d) ∷ []) d)) k ≡ 0
behind_join w d k is =
    ap (λ l. last l k) (ledger-push d.raws (join_for w (ledger_of d)))
    ∙ ap (λ n. count_by (is_taken_from (id_of k)) (drop n (ledger_of d ++ (join_for w (ledger_of d), verdict (ledger_of d) (join_for w (ledger_of d))) ∷ []))) (is ∙ sym (length_ledger d.raws))
    ∙ ap (count_by (is_taken_from (id_of k))) (drop-append_seam (ledger_of d) ((join_for w (ledger_of d), verdict (ledger_of d) (join_for w (ledger_of d))) ∷ []))

abbrev loaded_entries : Loading → ℕ → Type 0
loaded_entries (turned_away refusal) n = Unit {0}
loaded_entries no_summary n = Unit {0}
loaded_entries (bad_summary path) n = Unit {0}
loaded_entries (loaded k) n = k.entries ≡ n

with_entries_of : (name : List ℕ) (n : ℕ) (l : Ledger) (base : ℕ) (version : Result AVersion (List ℕ)) → loaded_entries (begun_with name n l base version) n
with_entries_of name n l base (Ok version) = refl
with_entries_of name n l base (Err path) = tt

from_entries : (w : World) (name : List ℕ) (n : ℕ) (l : Ledger) (summary : Option SummaryRef) → loaded_entries (begun_from w.store name n l summary) n
from_entries w name n l None = tt
from_entries w name n l (Some s) = with_entries_of name n l s.number (version_at w.store s)

at_entries : (w : World) (name : List ℕ) (n : ℕ) (l : Ledger) (pick : Pick) → loaded_entries (begun_at w.store name n l pick) n
at_entries w name n l Empty = refl
at_entries w name n l Latest = from_entries w name n l (picked Latest (order l))
at_entries w name n l (Handle handle) = from_entries w name n l (picked (Handle handle) (order l))

pub nothing_was_taken : NothingWasTaken
nothing_was_taken limits w d name pick k = by (join_refusal (joining limits w (ledger_of d)))
  where
    by : (refusal : Option ConnectRefusal) → loading_by w d name pick refusal ≡ loaded k → last (ledger_of (with_entries (if is_some refusal then [] else join_for w (ledger_of d) ∷ []) d)) k ≡ 0
    by None is =
        behind_join w d k (subst (λ l. loaded_entries l (length d.raws)) is (at_entries w name (length d.raws) (ledger_of (with_entries (join_for w (ledger_of d) ∷ []) d)) pick))
    by (Some refusal) is = absurd (cc)

pub head_is_since_base : OrdersAreAnsweredInTurn → HeadIsSinceBase
head_is_since_base in_turn w k sound =
    head_since in_turn (ledger_in w k.document) k.number k.base (ledger-legal (document w k.document).raws) sound.acknowledged
