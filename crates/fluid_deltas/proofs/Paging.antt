-- A page of messages is a slice of all of them.
use Rattle.std.proofs.Common.{◌≡◌, ℕ, zero, suc, ◌+◌, ◌-◌, ◌*◌, ◌<◌, ◌≤◌, List, [], ◌∷◌, ◌++◌, length, take, drop, get_or, Result, Ok, Err, OnOk, OnErr, refl, sym, ap, ◌∙◌, append_assoc, append-nil, length-append, arith}
use Rattle.std.specs.List.{All}
use Rattle.std.proofs.lemmas.List.{drop-drop, drop-take, take_all, get_or-drop, get_or-take}
use Rattle.std.proofs.lemmas.List.Elements.{All-append, All-nil, All-cons}
use Rattle.std.proofs.Math.Seq.{drop-append_seam, drop-append-add, take-append_seam}
use Rattle.fluid_types.specs.declared.messages.Message.{Message}
use Rattle.fluid_deltas.specs.Pages.{joined, ArePages, IsOnPage}

abbrev AreWhole : List (List Message) → Type 0
AreWhole full = All (λ page. length page ≡ 256) full

whole_behind : (page : List Message) (pages : List (List Message)) → AreWhole (page ∷ pages) → AreWhole pages
whole_behind page pages each = λ k d lt. each (suc k) d (omega arith)

-- so many pages have so many messages
pub joined_length : (full : List (List Message)) → AreWhole full → length (joined full) ≡ 256 * length full
joined_length [] each = refl
joined_length (page ∷ pages) each =
    let first : length page ≡ 256 = each 0 page (omega arith) in
    omega (arith, length-append page (joined pages), first, joined_length pages (whole_behind page pages each))

prefix_page : (page rest : List Message) → length page ≡ 256 → take 256 (page ++ rest) ≡ page
prefix_page page rest count = ap (λ n. take n (page ++ rest)) (sym count) ∙ take-append_seam page rest

behind_page : (page rest : List Message) (k : ℕ) → length page ≡ 256 → drop (256 * suc k) (page ++ rest) ≡ drop (256 * k) rest
behind_page page rest k count =
    let at : 256 * suc k ≡ length page + 256 * k = omega (arith, count) in
    ap (λ n. drop n (page ++ rest)) at ∙ drop-append-add page rest (256 * k)

pub full_page : (full : List (List Message)) (last : List Message) (k : ℕ) (page : List Message) → AreWhole full → k < length full → page ≡ get_or full k page
    → page ≡ take 256 (drop (256 * k) (joined full ++ last))
full_page [] last k page each lt is = absurd (omega arith)
full_page (first ∷ pages) last zero page each lt is =
    let rest = joined pages ++ last in
    is ∙ sym (prefix_page first rest (each 0 first (omega arith))) ∙ ap (take 256) (sym (append_assoc first (joined pages) last))
full_page (first ∷ pages) last (suc k) page each lt is =
    let rest = joined pages ++ last in
    full_page pages last k page (whole_behind first pages each) (omega arith) is
    ∙ ap (take 256) (sym (behind_page first rest k (each 0 first (omega arith))) ∙ ap (drop (256 * suc k)) (sym (append_assoc first (joined pages) last)))

pub last_page : (full : List (List Message)) (last : List Message) (k : ℕ) → AreWhole full → length last ≤ 256 → k ≡ length full → last ≡ take 256 (drop (256 * k) (joined full ++ last))
last_page full last k each short is =
    let at : 256 * k ≡ length (joined full) = omega (arith, joined_length full each, is) in
    sym (take_all 256 last short) ∙ ap (take 256) (sym (ap (λ n. drop n (joined full ++ last)) at ∙ drop-append_seam (joined full) last))

-- the last page is turned, and a new one begins
pub joined_more : (full : List (List Message)) (page : List Message) → joined (full ++ page ∷ []) ≡ joined full ++ page
joined_more [] page = append-nil page
joined_more (first ∷ pages) page = ap (λ ms. first ++ ms) (joined_more pages page) ∙ sym (append_assoc first (joined pages) page)

pub whole_more : (full : List (List Message)) (page : List Message) → AreWhole full → length page ≡ 256 → AreWhole (full ++ page ∷ [])
whole_more full page each count = All-append (λ p. length p ≡ 256) full (page ∷ []) each (All-cons (λ p. length p ≡ 256) page [] count (All-nil (λ p. length p ≡ 256)))

-- the last page is full, and a new one begins behind it, or nothing changes
pub record IsTurned (full after : List (List Message)) (last rest : List Message) : Type 0 where
  pub pages : ArePages after rest
  pub messages : joined after ++ rest ≡ joined full ++ last

pub turned : {V E : Type 0} (items : V → List Message) (result : Result (Unit {0}) E) (full after : List (List Message)) (last rest : V) → ArePages full (items last) → length (items last) ≡ 256
    → length (joined full ++ items last) < 4096 → OnOk result (after ≡ full ++ items last ∷ []) → OnOk result (items rest ≡ []) → OnErr result ((after ≡ full) × (rest ≡ last))
    → IsTurned full after (items last) (items rest)
turned items (Ok done) full after last rest are whole few more none same =
    rw (more, none)
    (record {
      pages = record {
        each = whole_more full (items last) are.each whole;
        few = omega (arith, few, whole, length-append (joined full) (items last), joined_length full are.each, length-append full (items last ∷ []));
        short = omega arith;
      };
      messages = append-nil (joined (full ++ items last ∷ [])) ∙ joined_more full (items last);
    })
turned items (Err refused) full after last rest are whole few more none same =
    rw (same.0, ap items same.1) (record { pages = are; messages = refl })

-- the oldest page goes
pub joined_behind : (full : List (List Message)) (last : List Message) → AreWhole full → 0 < length full → joined (drop 1 full) ++ last ≡ drop 256 (joined full ++ last)
joined_behind [] last each some = absurd (omega arith)
joined_behind (page ∷ pages) last each some =
    let rest = joined pages ++ last in
    sym (ap (drop 256) (append_assoc page (joined pages) last) ∙ behind_page page rest 0 (each 0 page (omega arith)))

-- one message of a page
pub page_at : (ms : List Message) (number rest place : ℕ) (m : Message) → rest < 256 → 256 * number + rest ≡ place → m ≡ get_or (take 256 (drop (256 * number) ms)) rest m → m ≡ get_or ms place m
page_at ms number rest place m lt at is =
    is ∙ get_or-take 256 (drop (256 * number) ms) rest m lt ∙ get_or-drop (256 * number) ms rest m ∙ ap (λ n. get_or ms n m) at

pub take_shorter : (xs : List Message) (n k : ℕ) → n ≤ k → take n (take k xs) ≡ take n xs
take_shorter xs zero k le = refl
take_shorter xs (suc n) zero le = absurd (omega arith)
take_shorter [] (suc n) (suc k) le = refl
take_shorter (x ∷ xs) (suc n) (suc k) le = ap (λ ms. x ∷ ms) (take_shorter xs n k (omega arith))

-- a part of a page
pub page_part : (ms : List Message) (first start end : ℕ) → first ≤ start → start ≤ end → end ≤ first + 256
    → take (end - first - (start - first)) (drop (start - first) (take 256 (drop first ms))) ≡ take (end - start) (drop start ms)
page_part ms first start end le ordered short =
    let inside = start - first in
    let rest = 256 - inside in
    let count : end - first - inside ≡ end - start = omega arith in
    let parts : 256 ≡ inside + rest = omega arith in
    let at : first + inside ≡ start = omega arith in
    ap (λ n. take n (drop inside (take 256 (drop first ms)))) count
    ∙ ap (λ n. take (end - start) (drop inside (take n (drop first ms)))) parts
    ∙ ap (take (end - start)) (drop-take inside rest (drop first ms))
    ∙ ap (λ ys. take (end - start) (take rest ys)) (drop-drop inside first ms ∙ ap (λ n. drop n ms) at)
    ∙ take_shorter (drop start ms) (end - start) rest (omega arith)

-- no other page has the places
pub other_page : (number start end : ℕ) → start < 256 * number + 256 → 256 * number + 256 < end → IsOnPage start end → ⊥
other_page number start end here past on = omega (arith, on.first, on.last, here, past)
