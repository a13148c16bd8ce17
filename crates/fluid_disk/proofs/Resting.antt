-- What the steps of writing calls make of a file at rest, and what opening finds then.
use Rattle.std.proofs.Common.{◌≡◌, ◌≢◌, ◌⊎◌, inl, inr, ℕ, zero, suc, ◌+◌, ◌<◌, List, [], ◌∷◌, ◌++◌, length, get_or, take, drop, refl, sym, ◌∙◌, ap, subst, arith, append_assoc, length-append}
use Rattle.std.proofs.lemmas.Bool.{cases_eq}
use Rattle.std.proofs.lemmas.List.{take_at, get_or_at, append-nil}
use Rattle.std.specs.List.{AllByRecursion}
use Rattle.fluid_disk.specs.Disk.{Torn, Cut, overwritten}
use Rattle.fluid_disk.specs.Records.{IsShort, framed, spelled, gate_before, Finds, IsAtRest}
use Rattle.fluid_disk.specs.Files.{Owing, Nothing, Appending, Cutting, Opens, IsAtRestBut, Keeps, MayOwe}
use Rattle.fluid_disk.proofs.Tears.{torn_same, torn_twice, one_torn, one_written, torn_behind, written_behind}
use Rattle.fluid_disk.proofs.Rows.{spelled_push, opened_at}

-- the prefix of a file at rest, with its last gate
with_gate : (records : List (List ℕ)) (bytes : List ℕ) (rest : IsAtRest records bytes) → bytes ≡ (spelled records ++ rest.gate ∷ []) ++ rest.behind
with_gate records bytes rest = rest.splits ∙ sym (append_assoc (spelled records) (rest.gate ∷ []) rest.behind)

-- whatever stands behind the gate, the file is at rest
behind_any : (records : List (List ℕ)) (gate : ℕ) (behind bytes : List ℕ) → gate ≢ 1 → bytes ≡ (spelled records ++ gate ∷ []) ++ behind → IsAtRest records bytes
behind_any records gate behind bytes closed is = record { gate = gate; behind = behind; splits = is ∙ append_assoc (spelled records) (gate ∷ []) behind; closed = closed }

pub gate_of_rest : (records : List (List ℕ)) (bytes : List ℕ) (rest : IsAtRest records bytes) → get_or bytes (length (spelled records)) 0 ≡ rest.gate
gate_of_rest records bytes rest = ap (λ (l : List ℕ). get_or l (length (spelled records)) 0) rest.splits ∙ get_or_at (spelled records) rest.gate rest.behind 0 (length (spelled records)) refl

-- ---- writing behind the gate

pub behind_torn : (records : List (List ℕ)) (held image : List ℕ) (at n : ℕ) → at ≡ length (spelled records) + 1 → IsAtRest records held → Torn at n held image → IsAtRest records image
behind_torn records held image at n place rest torn =
    let prefix = spelled records ++ rest.gate ∷ [] in
    let same : at ≡ length prefix = omega (arith, place, length-append (spelled records) (rest.gate ∷ [])) in
    let moved : Torn (length prefix) n (prefix ++ rest.behind) image = rw (← same, ← with_gate records held rest) torn in
    behind_any records rest.gate (drop (length prefix) image) image rest.closed (torn_behind prefix rest.behind image n moved)

-- a record stands whole behind the last gate, and behind it a closed one
pub record IsStaged (records : List (List ℕ)) (bytes held : List ℕ) : Type 0 where
  pub gate : ℕ
  pub last : ℕ
  pub behind : List ℕ
  pub splits : held ≡ spelled records ++ gate ∷ (framed bytes ++ last ∷ behind)
  pub closed : last ≢ 1

pub staged : (records : List (List ℕ)) (bytes held : List ℕ) (at : ℕ) → at ≡ length (spelled records) + 1 → IsAtRest records held → IsStaged records bytes (overwritten at (framed bytes ++ 0 ∷ []) held)
staged records bytes held at place rest =
    let prefix = spelled records ++ rest.gate ∷ [] in
    let written = framed bytes ++ 0 ∷ [] in
    let same : at ≡ length prefix = omega (arith, place, length-append (spelled records) (rest.gate ∷ [])) in
    let is : overwritten at written held ≡ overwritten (length prefix) written (prefix ++ rest.behind) =
    ap (λ (n : ℕ). overwritten n written held) same ∙ ap (λ (l : List ℕ). overwritten (length prefix) written l) (with_gate records held rest) in
    let behind = drop (length prefix + length written) (prefix ++ rest.behind) in
    record {
      gate = rest.gate;
      last = 0;
      behind = behind;
      splits = is ∙ written_behind prefix written rest.behind ∙ append_assoc (spelled records) (rest.gate ∷ []) (written ++ behind)
          ∙ ap (λ (l : List ℕ). spelled records ++ rest.gate ∷ l) (append_assoc (framed bytes) (0 ∷ []) behind);
      closed = omega arith;
    }

-- ---- the gate

-- with its gate open the record counts, and else it doesn't
gate_any : (records : List (List ℕ)) (bytes : List ℕ) (gate last : ℕ) (behind image : List ℕ) → last ≢ 1 → image ≡ spelled records ++ gate ∷ (framed bytes ++ last ∷ behind)
    → IsAtRest records image ⊎ IsAtRest (records ++ bytes ∷ []) image
gate_any records bytes gate last behind image closed is = elim (cases_eq gate 1) [
  | inl is_open ↦ inr (record {
    gate = last;
    behind = behind;
    splits = is ∙ ap (λ (g : ℕ). spelled records ++ g ∷ (framed bytes ++ last ∷ behind)) is_open ∙ sym (spelled_push records bytes (last ∷ behind));
    closed = closed;
  })
  | inr shut ↦ inl (record { gate = gate; behind = framed bytes ++ last ∷ behind; splits = is; closed = shut })
]

pub gate_torn : (records : List (List ℕ)) (bytes held image : List ℕ) → IsStaged records bytes held → Torn (length (spelled records)) 1 held image
    → IsAtRest records image ⊎ IsAtRest (records ++ bytes ∷ []) image
gate_torn records bytes held image stands torn =
    let back = framed bytes ++ stands.last ∷ stands.behind in
    let moved : Torn (length (spelled records)) 1 (spelled records ++ stands.gate ∷ back) image = rw (← stands.splits) torn in
    gate_any records bytes (get_or image (length (spelled records)) 0) stands.last stands.behind image stands.closed (one_torn (spelled records) stands.gate back image moved)

pub gate_opened : (records : List (List ℕ)) (bytes held : List ℕ) → IsStaged records bytes held → IsAtRest (records ++ bytes ∷ []) (overwritten (length (spelled records)) (1 ∷ []) held)
gate_opened records bytes held stands =
    let back = framed bytes ++ stands.last ∷ stands.behind in
    record {
      gate = stands.last;
      behind = stands.behind;
      splits = ap (λ (l : List ℕ). overwritten (length (spelled records)) (1 ∷ []) l) stands.splits ∙ one_written (spelled records) stands.gate 1 back
          ∙ sym (spelled_push records bytes (stands.last ∷ stands.behind));
      closed = stands.closed;
    }

pub gate_closed : (records : List (List ℕ)) (bytes held : List ℕ) → IsStaged records bytes held → IsAtRest records (overwritten (length (spelled records)) (0 ∷ []) held)
gate_closed records bytes held stands =
    let back = framed bytes ++ stands.last ∷ stands.behind in
    record {
      gate = 0;
      behind = back;
      splits = ap (λ (l : List ℕ). overwritten (length (spelled records)) (0 ∷ []) l) stands.splits ∙ one_written (spelled records) stands.gate 0 back;
      closed = omega arith;
    }

-- a record that counts stands whole behind its gate, which is open
pub staged_last : (records : List (List ℕ)) (bytes held : List ℕ) → IsAtRest (records ++ bytes ∷ []) held → IsStaged records bytes held
staged_last records bytes held rest = record {
  gate = 1;
  last = rest.gate;
  behind = rest.behind;
  splits = rest.splits ∙ spelled_push records bytes (rest.gate ∷ rest.behind);
  closed = rest.closed;
}

pub gate_of_staged : (records : List (List ℕ)) (bytes held : List ℕ) → IsAtRest (records ++ bytes ∷ []) held → get_or held (length (spelled records)) 0 ≡ 1
gate_of_staged records bytes held rest =
    ap (λ (l : List ℕ). get_or l (length (spelled records)) 0) (rest.splits ∙ spelled_push records bytes (rest.gate ∷ rest.behind))
    ∙ get_or_at (spelled records) 1 (framed bytes ++ rest.gate ∷ rest.behind) 0 (length (spelled records)) refl

-- ---- cutting behind the gate

pub cut_behind : (records : List (List ℕ)) (held image : List ℕ) (to : ℕ) → to ≡ length (spelled records) + 1 → IsAtRest records held → Cut to held image → IsAtRest records image
cut_behind records held image to place rest (inl is) = subst (IsAtRest records) (sym is) rest
cut_behind records held image to place rest (inr is) =
    let prefix = spelled records ++ rest.gate ∷ [] in
    let size : length prefix ≡ to = omega (arith, place, length-append (spelled records) (rest.gate ∷ [])) in
    let prefix_is : image ≡ prefix = is ∙ ap (λ (l : List ℕ). take to l) (with_gate records held rest) ∙ take_at prefix rest.behind to size in
    behind_any records rest.gate [] image rest.closed (prefix_is ∙ sym (append-nil prefix))

-- ---- a gate further in front

-- the gate before record n is open in a file at rest
pub record IsOpenAt (n : ℕ) (records : List (List ℕ)) (held : List ℕ) : Type 0 where
  pub behind : List ℕ
  pub splits : held ≡ spelled (take n records) ++ 1 ∷ behind

pub open_at : (n : ℕ) (records : List (List ℕ)) (held : List ℕ) → n < length records → IsAtRest records held → IsOpenAt n records held
open_at n records held lt rest =
    let back = framed (get_or records n []) ++ spelled (drop (n + 1) records) in
    record {
      behind = back ++ rest.gate ∷ rest.behind;
      splits = rest.splits ∙ ap (λ (l : List ℕ). l ++ rest.gate ∷ rest.behind) (opened_at n records lt) ∙ append_assoc (spelled (take n records)) (1 ∷ back) (rest.gate ∷ rest.behind);
    }

pub reopened : (n : ℕ) (records : List (List ℕ)) (held : List ℕ) → n < length records → IsAtRestBut n records held → IsAtRest records (overwritten (gate_before n records) (1 ∷ []) held)
reopened n records held lt but =
    let at = open_at n records but.whole lt but.rest in
    let prefix = spelled (take n records) in
    let moved : Torn (length prefix) 1 (prefix ++ 1 ∷ at.behind) held = rw (← at.splits) but.torn in
    let byte = get_or held (length prefix) 0 in
    let is : overwritten (gate_before n records) (1 ∷ []) held ≡ but.whole =
    ap (λ (l : List ℕ). overwritten (length prefix) (1 ∷ []) l) (one_torn prefix 1 at.behind held moved) ∙ one_written prefix byte 1 at.behind ∙ sym at.splits in
    subst (IsAtRest records) (sym is) but.rest

pub but_torn : (n : ℕ) (records : List (List ℕ)) (held image : List ℕ) → IsAtRestBut n records held → Torn (gate_before n records) 1 held image → IsAtRestBut n records image
but_torn n records held image but torn = record { whole = but.whole; rest = but.rest; torn = torn_twice (gate_before n records) 1 but.whole held image but.torn torn }

pub cut_off : (n : ℕ) (records : List (List ℕ)) (held : List ℕ) → n < length records → IsAtRest records held → IsAtRest (take n records) (overwritten (gate_before n records) (0 ∷ []) held)
cut_off n records held lt rest =
    let at = open_at n records held lt rest in
    let prefix = spelled (take n records) in
    record {
      gate = 0;
      behind = at.behind;
      splits = ap (λ (l : List ℕ). overwritten (length prefix) (0 ∷ []) l) at.splits ∙ one_written prefix 1 0 at.behind;
      closed = omega arith;
    }

-- ---- what opening finds

pub finds_rest : (records : List (List ℕ)) (bytes : List ℕ) → AllByRecursion IsShort records → IsAtRest records bytes → Finds records bytes
finds_rest records bytes short rest = record { short = short; end = rest.gate ∷ rest.behind; splits = rest.splits; ends = λ is_open whole. absurd (rest.closed is_open) }

pub finds_but : (n : ℕ) (records : List (List ℕ)) (image : List ℕ) → n < length records → IsAtRestBut n records image → IsAtRest records image ⊎ IsAtRest (take n records) image
finds_but n records image lt but =
    let at = open_at n records but.whole lt but.rest in
    let prefix = spelled (take n records) in
    let moved : Torn (length prefix) 1 (prefix ++ 1 ∷ at.behind) image = rw (← at.splits) but.torn in
    let byte = get_or image (length prefix) 0 in
    let is = one_torn prefix 1 at.behind image moved in
    elim (cases_eq byte 1) [
      | inl is_open ↦ inl (subst (IsAtRest records) (sym (is ∙ ap (λ (b : ℕ). prefix ++ b ∷ at.behind) is_open ∙ sym at.splits)) but.rest)
      | inr shut ↦ inr (record { gate = byte; behind = at.behind; splits = is; closed = shut })
    ]

pub short_push : (records : List (List ℕ)) (bytes : List ℕ) → AllByRecursion IsShort records → IsShort bytes → AllByRecursion IsShort (records ++ bytes ∷ [])
short_push [] bytes all one = (one, tt)
short_push (first ∷ records) bytes all one = (all.0, short_push records bytes all.1 one)

pub short_take : (n : ℕ) (records : List (List ℕ)) → AllByRecursion IsShort records → AllByRecursion IsShort (take n records)
short_take zero records all = tt
short_take (suc n) [] all = tt
short_take (suc n) (first ∷ records) all = (all.0, short_take n records all.1)

pub keeps_opens : (records : List (List ℕ)) (owing : Owing) (image : List ℕ) → AllByRecursion IsShort records → MayOwe records owing → Keeps records owing image → Opens (record { records = records; owing = owing }) image
keeps_opens records Nothing image short fits rest = (records, finds_rest records image short rest, refl)
keeps_opens records (Appending bytes) image short fits (inl rest) = (records, finds_rest records image short rest, inl refl)
keeps_opens records (Appending bytes) image short fits (inr rest) = (records ++ bytes ∷ [], finds_rest (records ++ bytes ∷ []) image (short_push records bytes short fits) rest, inr refl)
keeps_opens records (Cutting n) image short fits but = elim (finds_but n records image fits but) [
  | inl rest ↦ (records, finds_rest records image short rest, inl refl)
  | inr rest ↦ (take n records, finds_rest (take n records) image (short_take n records short) rest, inr refl)
]
