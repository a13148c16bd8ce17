-- What torn writes and cuts leave of bytes.
use Rattle.std.proofs.Common.{◌≡◌, ℕ, ◌+◌, ◌<◌, ◌≤◌, List, [], ◌∷◌, ◌++◌, length, get_or, take, drop, refl, sym, ◌∙◌, ap, arith, append_assoc, length-append, take-append-drop, length-drop}
use Rattle.std.proofs.lemmas.List.{take_at, drop_at, drop_more, length-take-le}
use Rattle.fluid_disk.specs.Disk.{Torn, overwritten}

pub torn_same : (at n : ℕ) (bytes : List ℕ) → Torn at n bytes bytes
torn_same at n bytes = record { before = refl; after = refl; no_shorter = omega arith; no_longer = omega arith }

pub torn_twice : (at n : ℕ) (a b c : List ℕ) → Torn at n a b → Torn at n b c → Torn at n a c
torn_twice at n a b c one two = record {
  before = two.before ∙ one.before;
  after = two.after ∙ one.after;
  no_shorter = omega (arith, one.no_shorter, two.no_shorter);
  no_longer = omega (arith, one.no_longer, two.no_longer);
}

-- a write that was done is one that a crash cut short
pub torn_done : (at : ℕ) (bytes old : List ℕ) → at ≤ length old → Torn at (length bytes) old (overwritten at bytes old)
torn_done at bytes old le =
    let prefix : length (take at old) ≡ at = length-take-le at old le in
    let both : length (take at old ++ bytes) ≡ at + length bytes = omega (arith, length-append (take at old) bytes, prefix) in
    let size = length-append (take at old ++ bytes) (drop (at + length bytes) old) in
    let rest = ap length (take-append-drop (at + length bytes) old) in
    record {
      before = ap (λ (l : List ℕ). take at l) (append_assoc (take at old) bytes (drop (at + length bytes) old)) ∙ take_at (take at old) (bytes ++ drop (at + length bytes) old) at prefix;
      after = drop_at (take at old ++ bytes) (drop (at + length bytes) old) (at + length bytes) both;
      no_shorter = omega (arith, size, both, length-drop (at + length bytes) old);
      no_longer = omega (arith, size, both, length-drop (at + length bytes) old);
    }

-- ---- one byte

-- a torn byte is any byte
pub one_torn : (prefix : List ℕ) (byte : ℕ) (back image : List ℕ) → Torn (length prefix) 1 (prefix ++ byte ∷ back) image → image ≡ prefix ++ get_or image (length prefix) 0 ∷ back
one_torn prefix byte back image torn =
    let k = length prefix in
    let longer : k < length image = omega (arith, torn.no_shorter, length-append prefix (byte ∷ back)) in
    let before : take k image ≡ prefix = torn.before ∙ take_at prefix (byte ∷ back) k refl in
    let after : drop (k + 1) image ≡ back =
    torn.after ∙ ap (λ (l : List ℕ). drop (k + 1) l) (sym (append_assoc prefix (byte ∷ []) back)) ∙ drop_at (prefix ++ byte ∷ []) back (k + 1) (length-append prefix (byte ∷ [])) in
    sym (take-append-drop k image) ∙ ap (λ (l : List ℕ). l ++ drop k image) before
    ∙ ap (λ (l : List ℕ). prefix ++ l) (drop_more image k 0 longer ∙ ap (λ (l : List ℕ). get_or image k 0 ∷ l) after)

-- a byte that was written stands in the place of the other
pub one_written : (prefix : List ℕ) (byte new : ℕ) (back : List ℕ) → overwritten (length prefix) (new ∷ []) (prefix ++ byte ∷ back) ≡ prefix ++ new ∷ back
one_written prefix byte new back =
    let k = length prefix in
    let before : take k (prefix ++ byte ∷ back) ≡ prefix = take_at prefix (byte ∷ back) k refl in
    let after : drop (k + 1) (prefix ++ byte ∷ back) ≡ back =
    ap (λ (l : List ℕ). drop (k + 1) l) (sym (append_assoc prefix (byte ∷ []) back)) ∙ drop_at (prefix ++ byte ∷ []) back (k + 1) (length-append prefix (byte ∷ [])) in
    ap (λ (l : List ℕ). (l ++ new ∷ []) ++ drop (k + 1) (prefix ++ byte ∷ back)) before
    ∙ ap (λ (l : List ℕ). (prefix ++ new ∷ []) ++ l) after
    ∙ append_assoc prefix (new ∷ []) back

-- ---- what stands behind

-- a write behind a prefix leaves the prefix
pub torn_behind : (prefix behind image : List ℕ) (n : ℕ) → Torn (length prefix) n (prefix ++ behind) image → image ≡ prefix ++ drop (length prefix) image
torn_behind prefix behind image n torn =
    sym (take-append-drop (length prefix) image) ∙ ap (λ (l : List ℕ). l ++ drop (length prefix) image) (torn.before ∙ take_at prefix behind (length prefix) refl)

pub written_behind : (prefix bytes behind : List ℕ) → overwritten (length prefix) bytes (prefix ++ behind) ≡ prefix ++ (bytes ++ drop (length prefix + length bytes) (prefix ++ behind))
written_behind prefix bytes behind =
    ap (λ (l : List ℕ). (l ++ bytes) ++ drop (length prefix + length bytes) (prefix ++ behind)) (take_at prefix behind (length prefix) refl)
    ∙ append_assoc prefix bytes (drop (length prefix + length bytes) (prefix ++ behind))
