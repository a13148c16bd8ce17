-- The tree of a state in the form is canonical.
use Rattle.std.proofs.Common.{◌≡◌, ℕ, suc, ◌<◌, ◌≤◌, ◌^◌, arith, ℤ, pos, negsuc, Bool, true, ◌&&◌, List, [], ◌∷◌, ◌++◌, map, Option, Some, None, option_map, IfSome, All, refl}
use Rattle.std.specs.Prelude.{codes}
use Rattle.hex.specs.Hex.{encode_lower}
use Rattle.std.specs.declared.cmp.Ordering.{Ordering}
use Rattle.std.specs.declared.cmp.Ordering.TheVariants.{Less, Equal, Greater}
use Rattle.std.specs.Ordering.{nat_cmp, is_lt}
use Rattle.std.specs.Cmp.Lexicographic.{slice_cmp}
use Rattle.std.specs.FinMap.{entries}
use Rattle.std.proofs.lemmas.Bool.{and_parts, leb-true}
use Rattle.std.proofs.Common.{leb}
use Rattle.fluid_codec.proofs.Steps.{T_true}
use Rattle.fluid_json.specs.Tree.{Tree, boolean, text, trees, members, HasCanonical, AreCanonical, IsCanonical, IsSigned, IsBelowAll}
use Rattle.fluid_codec.specs.Laws.{IsReference, IsMessage}
use Rattle.fluid_types.specs.Forms.{largest}
use Rattle.fluid_types.specs.Texts.{name_of}
use Rattle.fluid_types.specs.Printed.{Row as Pair, row_if_any, or_null, count_tree, scope_words, scopes_tree, message_rows, message_tree}
use Rattle.fluid_types.specs.declared.fault.Field.{Field}
use Rattle.fluid_types.specs.declared.fault.Field.TheVariants as field
use Rattle.fluid_types.specs.declared.messages.Kind.{Kind}
use Rattle.fluid_types.specs.declared.messages.Message.{Message}
use Rattle.fluid_tree.specs.declared.id.SummaryRef.{SummaryRef}
use Rattle.fluid_clients.specs.declared.table.Row.{Row}
use Rattle.fluid_checkpoint.specs.declared.state.State.{State}
use Rattle.fluid_checkpoint.specs.declared.version.Version.TheVariants.{One, Two}
use Rattle.fluid_checkpoint.specs.Text.{ack_tree, client_tree, moment_tree, change_tree, state_members, state_tree}
use Rattle.fluid_checkpoint.specs.Laws.{IsAck, IsClient, IsMoment, IsChange, IsInForm}

-- ---- members in byte order of their names, by a test

lt_less : (o : Ordering) → is_lt o ≡ true → o ≡ Less
lt_less Less h = refl
lt_less Equal h = cc
lt_less Greater h = cc

abbrev below_all : List ℕ → List Pair → Bool
below_all k [] = true
below_all k (r ∷ rs) = is_lt (slice_cmp nat_cmp k r.0) && below_all k rs

abbrev in_order : List Pair → Bool
in_order [] = true
in_order (r ∷ rs) = below_all r.0 rs && in_order rs

is_below_all : (k : List ℕ) (rs : List Pair) → below_all k rs ≡ true → IsBelowAll k (members rs)
is_below_all k [] h = tt
is_below_all k (r ∷ rs) h =
    let parts = and_parts (is_lt (slice_cmp nat_cmp k r.0)) (below_all k rs) h in (lt_less (slice_cmp nat_cmp k r.0) parts.0, is_below_all k rs parts.1)

abbrev AllCanonical : List Pair → Type 0
AllCanonical [] = Unit {0}
AllCanonical (r ∷ rs) = IsCanonical r.1 × AllCanonical rs

canonical_members : (rs : List Pair) → in_order rs ≡ true → AllCanonical rs → HasCanonical (members rs)
canonical_members [] h k = tt
canonical_members (r ∷ rs) h k =
    let parts = and_parts (below_all r.0 rs) (in_order rs) h in (is_below_all r.0 rs parts.0, (k.0, canonical_members rs parts.1 k.1))

-- ---- items

canonical_items : {A : Type 0} (tree : A → Tree) (P : A → Type 0) (xs : List A) → ((a : A) → P a → IsCanonical (tree a)) → All P xs → AreCanonical (trees (map tree xs))
canonical_items tree P [] each all = tt
canonical_items tree P (x ∷ xs) each all = (each x (all 0 x (omega arith)), canonical_items tree P xs each (λ k d lt. all (suc k) d (omega (arith, lt))))

small : (n : ℕ) → n ≤ largest → n < 2 ^ 63
small n h = omega arith

ack : (a : SummaryRef) → IsAck a → IsCanonical (ack_tree a)
ack a h = canonical_members ((codes "handle", text (encode_lower a.handle)) ∷ (codes "number", count_tree a.number) ∷ []) refl (tt, (small a.number h.number, tt))

texts : (ss : List (List ℕ)) → AreCanonical (trees (map text ss))
texts [] = tt
texts (s ∷ ss) = (tt, texts ss)

client : (c : List ℕ × Row) → IsClient c → IsCanonical (client_tree c)
client (id, row) h =
    canonical_members
    ((codes "id", text id)
    ∷ (codes "last", count_tree row.last)
    ∷ (codes "nacked", boolean row.nacked)
    ∷ (codes "reference", count_tree row.reference)
    ∷ (codes "scopes", scopes_tree row.scopes)
    ∷ [])
    refl (tt, (small row.last h.last, (tt, (small row.reference h.reference, (texts (scope_words row.scopes), tt)))))

moment : (m : List ℕ × ℕ) → IsMoment m → IsCanonical (moment_tree m)
moment (id, at) h = canonical_members ((codes "id", text id) ∷ (codes "moment", count_tree at) ∷ []) refl (tt, (small at h.moment, tt))

change : (c : ℕ × ℕ) → IsChange c → IsCanonical (change_tree c)
change (number, minimum) h = (small number h.number, (small minimum h.minimum, tt))

-- ---- messages

signed : (n : ℤ) → IsReference n → IsSigned n
signed (pos n) h = small n (leb-true n largest (T_true (leb n largest) h.most.le))
signed (negsuc n) h = small n (let z : n ≤ 0 = leb-true n 0 (T_true (leb n 0) h.least.le) in omega arith)

sender : (o : Option (List ℕ)) → IsCanonical (or_null text o)
sender None = tt
sender (Some id) = tt

message_order : (c : Option (List ℕ)) (n r : ℤ) (s m : ℕ) (k : Kind) (t : Tree) (y : Option (List ℕ)) (d : Option Tree) (at : ℕ)
    → in_order (message_rows (record { client = c; client_number = n; reference = r; number = s; minimum = m; kind = k; contents = t; system = y; metadata = d; moment = at })) ≡ true
unfolding message_rows name_of
message_order c n r s m k t None None at = refl
message_order c n r s m k t None (Some d) at = refl
message_order c n r s m k t (Some y) None at = refl
message_order c n r s m k t (Some y) (Some d) at = refl

if_any : (f : Field) (o : Option Tree) (rs : List Pair) → IfSome o IsCanonical → AllCanonical rs → AllCanonical (row_if_any f o ++ rs)
if_any f None rs h k = k
if_any f (Some t) rs h k = (h, k)

given : (o : Option (List ℕ)) → IfSome (option_map text o) IsCanonical
given None = tt
given (Some s) = tt

metadata : (o : Option Tree) (m : Message) → m.metadata ≡ o → IsMessage m → IfSome o IsCanonical
metadata None m is h = tt
metadata (Some t) m is h = (rw is at h.metadata).canonical

all_canonical : (m : Message) → IsMessage m → AllCanonical (message_rows m)
unfolding message_rows
all_canonical m h = (
  sender m.client,
  (
    signed m.client_number h.client_number,
    (
      h.contents.canonical,
      if_any field.Data (option_map text m.system) _ (given m.system) (
          if_any field.Metadata m.metadata _ (metadata m.metadata m refl h)
          (small m.minimum h.minimum, (signed m.reference h.reference, (small m.number h.number, (small m.moment h.moment, (tt, tt)))))),
    ),
  ),
)

pub message : (m : Message) → IsMessage m → IsCanonical (message_tree m)
message m h =
    canonical_members (message_rows m) (message_order m.client m.client_number m.reference m.number m.minimum m.kind m.contents m.system m.metadata m.moment)
    (all_canonical m h)

-- ---- the state

pub first : (s : State) → IsInForm s → IsCanonical (state_tree One s)
unfolding state_members
first s h =
    canonical_members (state_members One s) refl (
      canonical_items ack_tree IsAck s.scribe.acks ack h.acks,
      (
        h.base.canonical,
        (
          canonical_items message_tree IsMessage s.scribe.behind message h.behind.each,
          (
            canonical_items client_tree IsClient (entries s.sequencer.rows) client h.clients,
            (
              small s.counted h.counted,
              (
                small s.entered h.entered,
                (
                  canonical_items change_tree IsChange s.scribe.minima change h.minima,
                  (
                    small s.sequencer.minimum h.minimum,
                    (
                      canonical_items message_tree IsMessage s.scribe.pending message h.pending.each,
                      (small s.sequencer.sequence h.sequence, (small 1 (omega arith), tt)),
                    ),
                  ),
                ),
              ),
            ),
          ),
        ),
      ),
    )

pub second : (s : State) → IsInForm s → IsCanonical (state_tree Two s)
unfolding state_members
second s h =
    canonical_members (state_members Two s) refl (
      canonical_items ack_tree IsAck s.scribe.acks ack h.acks,
      (
        h.base.canonical,
        (
          canonical_items message_tree IsMessage s.scribe.behind message h.behind.each,
          (
            canonical_items client_tree IsClient (entries s.sequencer.rows) client h.clients,
            (
              small s.counted h.counted,
              (
                small s.entered h.entered,
                (
                  canonical_items moment_tree IsMoment s.heard moment h.moments,
                  (
                    canonical_items change_tree IsChange s.scribe.minima change h.minima,
                    (
                      small s.sequencer.minimum h.minimum,
                      (
                        canonical_items message_tree IsMessage s.scribe.pending message h.pending.each,
                        (small s.sequencer.sequence h.sequence, (small 2 (omega arith), tt)),
                      ),
                    ),
                  ),
                ),
              ),
            ),
          ),
        ),
      ),
    )
