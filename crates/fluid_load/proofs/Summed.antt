-- The lines of a summary are those of the workload.
use Rattle.std.proofs.Common.{◌≡◌, ℕ, arith, true, List, [], ◌∷◌, ◌++◌, map, length, Option, Some, None, Result, Ok, Err, codes, refl, sym, ap, subst, ◌∙◌, append_assoc}
use Rattle.std.specs.Prelude.{is_some, IfOk}
use Rattle.std.specs.FinMap.{get, entries, len-entries, len-empty}
use Rattle.sha1.specs.Sha1.{sha1}
use Rattle.hex.specs.Hex.{encode_lower}
use Rattle.fluid_json.specs.declared.memory.NoMemory.{NoMemory as WantsMemory}
use Rattle.fluid_table.specs.Table.{byte_order}
use Rattle.fluid_tree.specs.Summary.{Summary, tree, children}
use Rattle.fluid_tree.specs.Identity.{id_answer}
use Rattle.fluid_edits.specs.Replay.{Channel, Channels, no_channels}
use Rattle.fluid_runtime.specs.AppTree.{app_tree, channel_node}
use Rattle.fluid_store.specs.Listed.{own_bytes}
use Rattle.fluid_alike.proofs.Held.{id_is}
use Rattle.fluid_transcript.specs.World.{Name, connection, container, roamer, used_up, Document, World, document, ledger_of}
use Rattle.fluid_transcript.specs.Containers.{app_id}
use Rattle.fluid_transcript.specs.Transcript.{written}
use Rattle.fluid_transcript.proofs.Fitting.{length_ledger}
use Rattle.fluid_world.specs.declared.named.Named.{Named}
use Rattle.fluid_world.specs.declared.named.Named.TheVariants as a
use Rattle.fluid_world.specs.Naming.{container_refusal}
use Rattle.fluid_world.specs.Standing.{IsNamed}
use Rattle.fluid_containers.specs.declared.holder.Holder.{Holder}
use Rattle.fluid_workload.specs.Working.{Workload, work, work_ledger, p, q}
use Rattle.fluid_voice.specs.Replies.{is_dropped}
use Rattle.fluid_workload.specs.Summary.{channels_of, state, counted, sameness, count, summary}
use Rattle.fluid_turns.specs.declared.figures.Figures.{Figures}
use Rattle.fluid_turns.specs.declared.tally.Tally.{Tally}
use Rattle.fluid_turns.specs.Figuring.{AreFigures}
use Rattle.fluid_turns.specs.Tallying.{IsTally}
use Rattle.fluid_turns.proofs.Tallied.{entries_counted}
use Rattle.fluid_load.specs.Standing.{AtWork, WorkGoes}
use Rattle.fluid_load.specs.Writing.{dropped_by, lines_of}

-- ---- states

-- the channels of a name that is no container's are none
none_there : (w : World) (n : Option Named) (m : Option Name) → IsNamed w n m → is_some (container_refusal n) ≡ true → channels_of w m ≡ no_channels
none_there w None None is refused = refl
none_there w None (Some m) is refused = absurd is
none_there w (Some (a.Connection v)) None is refused = absurd is
none_there w (Some (a.Connection v)) (Some (connection s)) is refused = refl
none_there w (Some (a.Connection v)) (Some (container k)) is refused = absurd is
none_there w (Some (a.Connection v)) (Some (roamer k)) is refused = absurd is
none_there w (Some (a.Connection v)) (Some used_up) is refused = absurd is
none_there w (Some (a.Container h)) m is refused = absurd (cc)
none_there w (Some (a.Roamer h)) None is refused = absurd is
none_there w (Some (a.Roamer h)) (Some (connection s)) is refused = absurd is
none_there w (Some (a.Roamer h)) (Some (container k)) is refused = absurd is
none_there w (Some (a.Roamer h)) (Some (roamer k)) is refused = refl
none_there w (Some (a.Roamer h)) (Some used_up) is refused = absurd is
none_there w (Some a.Used) None is refused = absurd is
none_there w (Some a.Used) (Some (connection s)) is refused = absurd is
none_there w (Some a.Used) (Some (container k)) is refused = absurd is
none_there w (Some a.Used) (Some (roamer k)) is refused = absurd is
none_there w (Some a.Used) (Some used_up) is refused = refl

its_channels : (w : World) (h : Holder) (m : Option Name) → IsNamed w (Some (a.Container h)) m → h.container.channels ≡ channels_of w m
its_channels w h None is = absurd is
its_channels w h (Some (connection s)) is = absurd is
its_channels w h (Some (container k)) is = is.container.channels_are
its_channels w h (Some (roamer k)) is = absurd is
its_channels w h (Some used_up) is = absurd is

no_items : {X : Type 0} (l : List X) → length l ≡ 0 → l ≡ []
no_items [] none = refl
no_items (x ∷ l) none = absurd (omega (arith, none))

none_entered : entries no_channels ≡ []
none_entered = no_items (entries no_channels) (sym (len-entries no_channels) ∙ len-empty byte_order Channel)

empty_tree : app_tree no_channels ≡ tree (children [])
empty_tree = ap (λ es. tree (children (map (λ e. (e.0, channel_node e.1)) es))) none_entered

-- an id that is told is that of the tree's own object
told_id : (s : Summary) (r : Result (List ℕ) WantsMemory) → IfOk r (λ id. id_answer s ≡ Ok id) → IfOk r (λ id. id ≡ sha1 (own_bytes s))
told_id s (Ok id) is = id_is 32 s id is
told_id s (Err wants) is = tt

pub state_none : (w : World) (n : Option Named) (m : Option Name) (s : Summary) (r : Result (List ℕ) WantsMemory) → IsNamed w n m → is_some (container_refusal n) ≡ true → s ≡ tree (children [])
    → IfOk r (λ id. id_answer s ≡ Ok id) → IfOk r (λ id. id ≡ app_id (channels_of w m))
state_none w n m s r is refused made told =
    subst (λ c. IfOk r (λ id. id ≡ app_id c)) (sym (none_there w n m is refused))
    (subst (λ t. IfOk r (λ id. id ≡ sha1 (own_bytes t))) (made ∙ sym empty_tree) (told_id s r told))

pub state_there : (w : World) (n : Option Named) (m : Option Name) (h : Holder) (r : Result (List ℕ) WantsMemory) → IsNamed w n m → n ≡ Some (a.Container h) → IfOk r (λ id. id ≡ app_id h.container.channels)
    → IfOk r (λ id. id ≡ app_id (channels_of w m))
state_there w n m h r is there told = subst (λ c. IfOk r (λ id. id ≡ app_id c)) (its_channels w h m (subst (λ n. IsNamed w n m) there is)) told

pub tree_told : (c : Channels) (s : Summary) (r : Result (List ℕ) WantsMemory) → s ≡ app_tree c → IfOk r (λ id. id_answer s ≡ Ok id) → IfOk r (λ id. id ≡ app_id c)
tree_told c s r made told = subst (λ t. IfOk r (λ id. id ≡ sha1 (own_bytes t))) made (told_id s r told)

-- ---- lines

dropped_is : (d : Document) (f : Figures) (t : Tally) → AreFigures f d → IsTally (ledger_of d) t → dropped_by f t ≡ count is_dropped (ledger_of d)
dropped_is d f t are is = omega (arith, are.entries, are.sequence, length_ledger d.raws, entries_counted (ledger_of d), is.absorbed, is.nacked)

abbrev lines_from : (messages dropped absorbed nacked summaries : ℕ) → (one other : List ℕ) → List (List ℕ)
lines_from messages dropped absorbed nacked summaries one other =
    counted (codes "messages") messages
    ∷ counted (codes "dropped") dropped
    ∷ counted (codes "absorbed") absorbed
    ∷ counted (codes "nacked") nacked
    ∷ counted (codes "summaries") summaries
    ∷ (codes "state " ++ encode_lower one)
    ∷ (codes "loaded " ++ sameness one other)
    ∷ []

same_lines : (a b c d e x y z u v : ℕ) (p q r s : List ℕ) → a ≡ x → b ≡ y → c ≡ z → d ≡ u → e ≡ v → p ≡ r → q ≡ s → lines_from a b c d e p q ≡ lines_from x y z u v r s
same_lines a b c d e x y z u v p q r s ax by cz du ev pr qs =
    ap (λ n. lines_from n b c d e p q) ax ∙ ap (λ n. lines_from x n c d e p q) by ∙ ap (λ n. lines_from x y n d e p q) cz ∙ ap (λ n. lines_from x y z n e p q) du ∙ ap (λ n. lines_from x y z u n p q) ev
    ∙ ap (λ i. lines_from x y z u v i q) pr ∙ ap (λ i. lines_from x y z u v r i) qs

-- lines behind lines
written_more : (ls : List (List ℕ)) (x : List ℕ) → written ls ++ written (x ∷ []) ≡ written (ls ++ x ∷ [])
written_more [] x = refl
written_more (l ∷ ls) x = append_assoc (l ++ 10 ∷ []) (written ls) (written (x ∷ [])) ∙ ap (λ t. (l ++ 10 ∷ []) ++ t) (written_more ls x)

pushed : (ls : List (List ℕ)) (x old new : List ℕ) → old ≡ written ls → new ≡ old ++ written (x ∷ []) → new ≡ written (ls ++ x ∷ [])
pushed ls x old new was is = is ∙ ap (λ o. o ++ written (x ∷ [])) was ∙ written_more ls x

module _ (f : Figures) (t : Tally) (one other : List ℕ) where
  abbrev l1 : List (List ℕ)
  l1 = counted (codes "messages") f.sequence ∷ []

  abbrev l2 : List (List ℕ)
  l2 = l1 ++ counted (codes "dropped") (dropped_by f t) ∷ []

  abbrev l3 : List (List ℕ)
  l3 = l2 ++ counted (codes "absorbed") t.absorbed ∷ []

  abbrev l4 : List (List ℕ)
  l4 = l3 ++ counted (codes "nacked") t.nacked ∷ []

  abbrev l5 : List (List ℕ)
  l5 = l4 ++ counted (codes "summaries") f.summaries ∷ []

  abbrev l6 : List (List ℕ)
  l6 = l5 ++ (codes "state " ++ encode_lower one) ∷ []

  pub seven_lines : (zero a b c d e s : List ℕ) (r : Result (List ℕ) WantsMemory) (dropped : ℕ) → zero ≡ [] → a ≡ zero ++ written (counted (codes "messages") f.sequence ∷ []) → dropped ≡ dropped_by f t
      → b ≡ a ++ written (counted (codes "dropped") dropped ∷ []) → c ≡ b ++ written (counted (codes "absorbed") t.absorbed ∷ []) → d ≡ c ++ written (counted (codes "nacked") t.nacked ∷ [])
      → e ≡ d ++ written (counted (codes "summaries") f.summaries ∷ []) → s ≡ e ++ written ((codes "state " ++ encode_lower one) ∷ []) → IfOk r (λ more. more ≡ s ++ written ((codes "loaded " ++ sameness one other) ∷ []))
      → IfOk r (λ bytes. bytes ≡ written (lines_of f t one other))
  seven_lines zero a b c d e s r dropped none messages is drop absorb nack sums state last = by r last
    where
      two : b ≡ written l2
      two = pushed l1 (counted (codes "dropped") (dropped_by f t)) a b (pushed [] (counted (codes "messages") f.sequence) zero a none messages) (drop ∙ ap (λ n. a ++ written (counted (codes "dropped") n ∷ [])) is)

      six : s ≡ written l6
      six = pushed l5 (codes "state " ++ encode_lower one) e s (pushed l4 (counted (codes "summaries") f.summaries) d e (pushed l3 (counted (codes "nacked") t.nacked) c d (pushed l2 (counted (codes "absorbed") t.absorbed) b c two absorb) nack) sums) state

      by : (r : Result (List ℕ) WantsMemory) → IfOk r (λ more. more ≡ s ++ written ((codes "loaded " ++ sameness one other) ∷ [])) → IfOk r (λ bytes. bytes ≡ written (lines_of f t one other))
      by (Ok bytes) last = pushed l6 (codes "loaded " ++ sameness one other) s bytes six last
      by (Err wants) last = tt

lines_are : (w : Workload) (f : Figures) (t : Tally) (one other : List ℕ) → AreFigures f (document w.world work) → IsTally (work_ledger w) t → one ≡ state w p → other ≡ state w q → lines_of f t one other ≡ summary w
lines_are w f t one other are is first last =
    same_lines f.sequence (dropped_by f t) t.absorbed t.nacked f.summaries _ _ _ _ _ one other (state w p) (state w q) are.sequence (dropped_is (document w.world work) f t are is) is.absorbed is.nacked are.summaries first last

pub summary_told : (s : AtWork) (w : Workload) (f : Figures) (t : Tally) (one other : List ℕ) (r : Result (List ℕ) WantsMemory) → WorkGoes s w → AreFigures f (document w.world work) → t ≡ s.tally → one ≡ state w p → other ≡ state w q
    → IfOk r (λ bytes. bytes ≡ written (lines_of f t one other)) → IfOk r (λ bytes. bytes ≡ written (summary w))
summary_told s w f t one other r goes are told first last h =
    subst (λ ls. IfOk r (λ bytes. bytes ≡ written ls)) (lines_are w f t one other are (subst (IsTally (work_ledger w)) (sym told) goes.stands.tally) first last) h

-- what is read of names of the same workload
pub record ReadsOff (s : AtWork) (now : AtWork) (w : Workload) : Type 0 where
  pub tally : s.tally ≡ now.tally
  pub state :
      (own name : List ℕ) (id : List ℕ) → name ≡ own → ((v : World) → IsNamed v (get now.names name) (get v.names name) → id ≡ app_id (channels_of v (get v.names name))) → id ≡ app_id (channels_of w.world (get w.world.names own))

pub named_one : (s now : AtWork) (w : Workload) → now ≡ s → WorkGoes s w → ReadsOff s now w
named_one s now w same goes = record {
  tally = ap (λ (x : AtWork). x.tally) (sym same);
  state = λ own name id at told.
      subst (λ n. id ≡ app_id (channels_of w.world (get w.world.names n))) at
      (told w.world (subst (λ (x : AtWork). IsNamed w.world (get x.names name) (get w.world.names name)) (sym same) (goes.stands.stands.named name)));
}
