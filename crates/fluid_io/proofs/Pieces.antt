-- Pieces of a line: what stands before the first line feed of bytes, and what stands behind it.
use Rattle.std.proofs.Common.{◌≡◌, ℕ, ◌+◌, ◌-◌, ◌<◌, ◌≤◌, true, false, eqb, List, [], ◌∷◌, ◌++◌, length, take, drop, get_or, refl, ap, sym, ◌∙◌, arith, append-nil}
use Rattle.std.proofs.lemmas.Bool.{eqb-true, false_from_ne_true}
use Rattle.std.proofs.lemmas.List.{take-append-drop, drop_more, drop-take, drop-drop, get_or-take, length-take, length-take-le}
use Rattle.std.proofs.lemmas.List.Elements.{All-from_get_or}
use Rattle.memchr.specs.Find.{Passes, NoneBefore, Nowhere, is_byte}
use Rattle.fluid_io.specs.Chunk.{TakesPiece}
use Rattle.fluid_io.specs.Lines.{IsPlain}

-- bytes up to a place below which no line feed stands
plain_before : (bytes : List ℕ) (n : ℕ) → n ≤ length bytes → Nowhere (Passes (is_byte 10) bytes) 0 n → IsPlain (take n bytes)
plain_before bytes n within none =
    All-from_get_or (λ b. eqb b 10 ≡ false) (take n bytes) 0 (λ i low.
    let below : i < n = omega (arith, length-take-le n bytes within) in
    rw (get_or-take n bytes i 0 below) (false_from_ne_true (eqb (get_or bytes i 0) 10) (none i (omega arith) below)))

-- bytes that have no line feed
plain_all : (bytes : List ℕ) → Nowhere (Passes (is_byte 10) bytes) 0 (length bytes) → IsPlain bytes
plain_all bytes none =
    All-from_get_or (λ b. eqb b 10 ≡ false) bytes 0 (λ i low. false_from_ne_true (eqb (get_or bytes i 0) 10) (none i (omega arith) low))

-- bytes round a line feed
round_line_feed : (bytes : List ℕ) (at : ℕ) → at < length bytes → Passes (is_byte 10) bytes at → bytes ≡ take at bytes ++ 10 ∷ drop (at + 1) bytes
round_line_feed bytes at low found =
    sym (take-append-drop at bytes)
    ∙ ap (λ rest. take at bytes ++ rest) (drop_more bytes at 0 low ∙ ap (λ b. b ∷ drop (at + 1) bytes) (eqb-true (get_or bytes at 0) 10 found))

-- what is held behind the first `n` bytes of those that are held
held_behind : (bytes : List ℕ) (start end n : ℕ) → n ≤ end - start
    → drop n (take (end - start) (drop start bytes)) ≡ take (end - (start + n)) (drop (start + n) bytes)
held_behind bytes start end n few =
    let m : end - start ≡ n + (end - (start + n)) = omega arith in
    rw (m, drop-take n (end - (start + n)) (drop start bytes), drop-drop n start bytes) refl

-- the bytes before the first line feed were taken, and the line feed passed over
pub takes_whole : (held old before now bytes : List ℕ) (start end at : ℕ)
    → old ≡ take (end - start) (drop start bytes) → held ≡ take (end - start) (drop start bytes)
    → NoneBefore (Passes (is_byte 10) held) 0 (length held) at → Passes (is_byte 10) held at → now ≡ before ++ take at held
    → TakesPiece old (take (end - (start + (at + 1))) (drop (start + (at + 1)) bytes)) before now true
takes_whole held old before now bytes start end at is_old is_held first found is_now =
    let few : at + 1 ≤ end - start = omega (arith, first.high, ap length is_held, length-take (end - start) (drop start bytes)) in
    record {
      piece = take at held;
      added = is_now;
      plain = plain_before held at (omega (arith, first.high)) first.before;
      taken = is_old ∙ sym is_held ∙ round_line_feed held at first.high found
          ∙ ap (λ rest. take at held ++ 10 ∷ rest) (ap (λ h. drop (at + 1) h) is_held ∙ held_behind bytes start end (at + 1) few);
      rest = λ h. cc;
    }

-- all the bytes were taken, where none is a line feed
pub takes_all : (held old before now bytes : List ℕ) (start end : ℕ)
    → old ≡ take (end - start) (drop start bytes) → held ≡ take (end - start) (drop start bytes)
    → Nowhere (Passes (is_byte 10) held) 0 (length held) → now ≡ before ++ held
    → TakesPiece old (take (end - end) (drop end bytes)) before now false
takes_all held old before now bytes start end is_old is_held none is_now =
    let none_left : end - end ≡ 0 = omega arith in
    let nothing : take (end - end) (drop end bytes) ≡ [] = rw none_left refl in
    record {
      piece = held;
      added = is_now;
      plain = plain_all held none;
      taken = is_old ∙ sym is_held ∙ rw nothing (sym (append-nil held));
      rest = λ h. nothing;
    }
