-- What is owed where a run ends, and what was written when it is handed on.
use Rattle.std.proofs.Common.{◌≡◌, ℕ, Bool, true, false, List, [], ◌∷◌, ◌++◌, refl, sym, ◌∙◌, ap, append-nil, append_assoc, Option, None, Some, Result, Ok, Err, inl, inr, subst, ◌⊎◌, arith}
use Rattle.std.specs.Option.{option_map}
use Rattle.std.specs.Str.Lines.{lines}
use Rattle.fluid_io.specs.Causes.{Rose, Tells}
use Rattle.fluid_io.specs.Streams.{Reading, Writing, Appends, AppendsPrefix}
use Rattle.fluid_io.specs.Reader.{Reader}
use Rattle.fluid_io.specs.Lines.{ahead, lines_ahead, IsCutOff}
use Rattle.fluid_pipe.specs.declared.refusal.Refusal.{Refusal}
use Rattle.fluid_pipe.specs.declared.stop.Stop.{Stop}
use Rattle.fluid_pipe.specs.declared.stop.Stop.TheVariants as stop
use Rattle.fluid_pipe.specs.Meaning.{Meaning, Accepts, bad_line}
use Rattle.fluid_pipe.specs.Output.{IsWhole, IsRefused, IsRefusedFor, IsBegun, IsInterrupted, IsCut, NoFault, TookAll, FailedAt, Wrote, Finished, HasEndCause, HasFailed}
use Rattle.fluid_pipe.specs.Progress.{IsWritten, RefusesLine, FailsLine, EndsInput, Steps, Progress, ReadsQuietly, HandsOn, Owes, Ends, Settled, has_write_fault}
use Rattle.fluid_pipe.proofs.Advances.{appends-both, none-left}
use Rattle.fluid_pipe.proofs.WholeLines.{cut-off, begun-cut}

-- ---- the lines of the input, where they are told

-- the bytes that are ahead, with the lines of all the input
record Rest (bytes : List ℕ) (ahead : Option (List ℕ)) (before : List (List ℕ)) : Type 0 where
  rest : List ℕ
  is : ahead ≡ Some rest
  split : lines bytes ≡ before ++ lines rest

rest_of : (bytes : List ℕ) (ahead : Option (List ℕ)) (before : List (List ℕ)) →
    Some (lines bytes) ≡ option_map (λ more. before ++ more) (option_map lines ahead) → Rest bytes ahead before
rest_of bytes None before h = cc
rest_of bytes (Some rest) before h = record { rest = rest; is = refl; split = cc }

told-is : (P : List ℕ → Type 0) (ahead : Option (List ℕ)) (rest : List ℕ) → Tells ahead P → ahead ≡ Some rest → P rest
told-is P None rest h e = cc
told-is P (Some bytes) rest h e = let same : bytes ≡ rest = cc in subst P same h

-- ---- what is owed

begun : {W : Type 0} (m : Meaning W) (text : List ℕ) (r : Reader) (s : Reading) (before : List (List ℕ)) (left : Option (List ℕ)) →
    option_map lines left ≡ option_map (λ more. before ++ more) (lines_ahead r s) → Accepts m [] before →
    text ≡ m.output before → Tells left (λ bytes. IsBegun m bytes text)
begun m text r s before None split accepted is = tt
begun m text r s before (Some bytes) split accepted is =
    let known = rest_of bytes (ahead r s) before split in
    record { before = before; behind = lines known.rest; split = known.split; accepted = accepted; text = is }

all-lines : (r : Reader) (s : Reading) (before : List (List ℕ)) (bytes : List ℕ) →
    Some (lines bytes) ≡ option_map (λ more. before ++ more) (lines_ahead r s) → Tells (ahead r s) (λ bytes. lines bytes ≡ []) → lines bytes ≡ before
all-lines r s before bytes split none =
    let known = rest_of bytes (ahead r s) before split in
    known.split ∙ ap (λ more. before ++ more) (told-is (λ bytes. lines bytes ≡ []) (ahead r s) known.rest none known.is) ∙ append-nil before

whole : {W : Type 0} (m : Meaning W) (text : List ℕ) (r : Reader) (s : Reading) (before : List (List ℕ)) (left : Option (List ℕ)) →
    option_map lines left ≡ option_map (λ more. before ++ more) (lines_ahead r s) → Accepts m [] before →
    text ≡ m.output before → Tells (ahead r s) (λ bytes. lines bytes ≡ []) → Tells left (λ bytes. IsWhole m bytes text)
whole m text r s before None split accepted is none = tt
whole m text r s before (Some bytes) split accepted is none =
    let all = all-lines r s before bytes split none in
    record { accepted = rw all accepted; text = rw all is }

took-all : (r : Reader) (s : Reading) (before : List (List ℕ)) (left : Option (List ℕ)) →
    option_map lines left ≡ option_map (λ more. before ++ more) (lines_ahead r s) → Tells (ahead r s) (λ bytes. lines bytes ≡ []) →
    Tells left (λ bytes. lines bytes ≡ before)
took-all r s before None split none = tt
took-all r s before (Some bytes) split none = all-lines r s before bytes split none

took-first : (r : Reader) (s : Reading) (before : List (List ℕ)) (left : Option (List ℕ)) →
    option_map lines left ≡ option_map (λ more. before ++ more) (lines_ahead r s) → Tells left (λ bytes. (behind : List (List ℕ)) × (lines bytes ≡ before ++ behind))
took-first r s before None split = tt
took-first r s before (Some bytes) split = let known = rest_of bytes (ahead r s) before split in (lines known.rest, known.split)

first-with : (r : Reader) (s : Reading) (before : List (List ℕ)) (left : Option (List ℕ)) →
    option_map lines left ≡ option_map (λ more. before ++ more) (lines_ahead r s) → (bytes line : List ℕ) (behind : List (List ℕ)) → Tells (ahead r s) (λ known. known ≡ bytes) → lines bytes ≡ line ∷ behind →
    Tells left (λ bytes. (behind : List (List ℕ)) × (lines bytes ≡ (before ++ line ∷ []) ++ behind))
first-with r s before None split bytes line behind told is = tt
first-with r s before (Some all) split bytes line behind told is =
    let known = rest_of all (ahead r s) before split in
    let same : known.rest ≡ bytes = told-is (λ known. known ≡ bytes) (ahead r s) known.rest told known.is in
    (behind, known.split ∙ ap (λ rest. before ++ lines rest) same ∙ ap (λ more. before ++ more) is ∙ sym (append_assoc before (line ∷ []) behind))

refused : {W : Type 0} (m : Meaning W) (Keeps : List (List ℕ) → Type 0) (text : List ℕ) (r : Reader) (s : Reading) (before : List (List ℕ)) (left : Option (List ℕ)) (number : ℕ) (why : Refusal W) →
    option_map lines left ≡ option_map (λ more. before ++ more) (lines_ahead r s) → Accepts m [] before →
    text ≡ m.output before → RefusesLine m Keeps before (ahead r s) number why →
    Tells left (λ bytes. IsRefusedFor m number why bytes (text ++ bad_line m number why))
refused m Keeps text r s before None number why split accepted is refuses = tt
refused m Keeps text r s before (Some bytes) number why split accepted is refuses =
    let known = rest_of bytes (ahead r s) before split in
    let same : known.rest ≡ refuses.bytes = told-is (λ known. known ≡ refuses.bytes) (ahead r s) known.rest refuses.told known.is in
    record {
      is = record {
        before = before;
        line = refuses.line;
        behind = refuses.behind;
        why = why;
        split = known.split ∙ ap (λ rest. before ++ lines rest) same ∙ ap (λ more. before ++ more) refuses.split;
        accepted = accepted;
        refused = refuses.refused;
        text = ap (λ t. t ++ bad_line m number why) is ∙ ap (λ n. m.output before ++ bad_line m n why) refuses.its_number;
      };
      its_number = refuses.its_number;
      its_reason = refl;
    }

pub owes-begun : {W : Type 0} (m : Meaning W) (Keeps : List (List ℕ) → Type 0) (input : Reading) (output : Writing) (r : Reader) (waiting waiting' : List ℕ) (s : Reading) (sink : Writing) →
    (p : Progress m Keeps input output r waiting s sink) → IsWritten m p.before p.gone waiting' →
    Owes (IsBegun m) input.left output.written sink.written waiting'
owes-begun m Keeps input output r waiting waiting' s sink p written = record {
  gone = p.gone;
  appended = p.appended;
  sort = begun m (p.gone ++ waiting') r s p.before input.left p.split p.reached.accepted written;
}

owes-interrupted : {W : Type 0} (m : Meaning W) (Keeps : List (List ℕ) → Type 0) (input : Reading) (output : Writing) (r : Reader) (waiting waiting' : List ℕ) (s s' : Reading) (sink : Writing) →
    (p : Progress m Keeps input output r waiting s sink) → IsWritten m p.before p.gone waiting' → IsCutOff r s s' →
    Owes (IsInterrupted m s'.left) input.left output.written sink.written waiting'
owes-interrupted m Keeps input output r waiting waiting' s s' sink p written cut = record {
  gone = p.gone;
  appended = p.appended;
  sort = cut-off m input.left (p.gone ++ waiting') r s s' p.before p.reached.limit p.read cut p.reached.accepted written;
}

-- the input has ended
pub ended : {W : Type 0} (m : Meaning W) (Keeps Kept : List (List ℕ) → Type 0) (input : Reading) (output : Writing) (r r' : Reader) (waiting waiting' : List ℕ) (s s' : Reading) (sink : Writing) →
    (p : Progress m Keeps input output r waiting s sink) → EndsInput m Kept p.before p.gone (ahead r s) (ahead r' s') waiting' →
    Owes (IsWhole m) input.left output.written sink.written waiting' × Tells s'.left (λ bytes. bytes ≡ []) × TookAll Kept input.left
ended m Keeps Kept input output r r' waiting waiting' s s' sink p h = (
  record { gone = p.gone; appended = p.appended; sort = whole m (p.gone ++ waiting') r s p.before input.left p.split p.reached.accepted h.written h.no_line },
  none-left r'.held s'.left h.no_byte,
  record { before = p.before; keeps = h.keeps; are_all = took-all r s p.before input.left p.split h.no_line },
)

-- a step that ended the reading
pub stopped : {W F : Type 0} (m : Meaning W) (Keeps Kept : List (List ℕ) → Type 0) (input : Reading) (output : Writing) (r r' : Reader) (waiting waiting' : List ℕ) (s s' : Reading) (sink : Writing) (why : Stop W F) →
    (p : Progress m Keeps input output r waiting s sink) → Steps m Kept p.before p.gone r s r' s' waiting' (Err why) →
    Ends m Kept input output waiting' s' sink (Err why)
stopped m Keeps Kept input output r r' waiting waiting' s s' sink (stop.Refused number why) p h = (
  record { gone = p.gone; appended = p.appended; sort = refused m Kept (p.gone ++ waiting') r s p.before input.left number why p.split p.reached.accepted h.1 h.0 },
  owes-begun m Keeps input output r waiting waiting' s sink p h.1,
  record { before = p.before; keeps = h.0.keeps; its_number = h.0.its_number; are_first = took-first r s p.before input.left p.split },
)
stopped m Keeps Kept input output r r' waiting waiting' s s' sink stop.ReadFault p h = owes-interrupted m Keeps input output r waiting waiting' s s' sink p h.1 h.0
stopped m Keeps Kept input output r r' waiting waiting' s s' sink stop.WriteFault p h = absurd h
stopped m Keeps Kept input output r r' waiting waiting' s s' sink stop.NoMemory p h = owes-begun m Keeps input output r waiting waiting' s sink p h
stopped m Keeps Kept input output r r' waiting waiting' s s' sink (stop.Failed fault) p h = owes-begun m Keeps input output r waiting waiting' s sink p h

-- ---- faults

pub rose : (first before now : ℕ) → before ≡ first → Rose before now → Rose first now
rose first before now h k = omega arith

-- nothing failed until the last step of the reading
pub read-on : (input source source' : Reading) (output sink : Writing) → NoFault input output source sink → source'.faults ≡ source.faults → NoFault input output source' sink
read-on input source source' output sink none quiet = record { read = quiet ∙ none.read; written = none.written }

pub read-cause : {W F : Type 0} (input source source' : Reading) (output sink : Writing) (why : Stop W F) → NoFault input output source sink →
    ReadsQuietly {A = Bool} source.faults source'.faults (Err why) → HasEndCause input output source' sink (Err why)
read-cause input source source' output sink (stop.Refused number why) none quiet = read-on input source source' output sink none quiet
read-cause input source source' output sink stop.ReadFault none quiet =
    record { read = rose input.faults source.faults source'.faults none.read quiet; written = none.written }
read-cause input source source' output sink stop.WriteFault none quiet = absurd quiet
read-cause input source source' output sink stop.NoMemory none quiet = read-on input source source' output sink none quiet
read-cause input source source' output sink (stop.Failed fault) none quiet = read-on input source source' output sink none quiet

pub written-on : (input source : Reading) (output sink after : Writing) → NoFault input output source sink → after.faults ≡ sink.faults → NoFault input output source after
written-on input source output sink after none quiet = record { read = none.read; written = quiet ∙ none.written }

pub write-cause : {W F : Type 0} (input source : Reading) (output sink after : Writing) (why : Stop W F) → NoFault input output source sink →
    HandsOn sink.faults after.faults (Err why) → HasEndCause input output source after (Err why)
write-cause input source output sink after (stop.Refused number why) none h = absurd h
write-cause input source output sink after stop.ReadFault none h = absurd h
write-cause input source output sink after stop.WriteFault none h = rose output.faults sink.faults after.faults none.written h
write-cause input source output sink after stop.NoMemory none h = absurd h
write-cause input source output sink after (stop.Failed fault) none h = absurd h

-- all was handed on
pub finish-cause : {W F : Type 0} (input source : Reading) (output sink after : Writing) (settled : Result (Unit {0}) (Stop W F)) → has_write_fault settled ≡ false →
    HasEndCause input output source sink settled → after.faults ≡ sink.faults → HasEndCause input output source after settled
finish-cause input source output sink after (Ok done) not h quiet = written-on input source output sink after h quiet
finish-cause input source output sink after (Err (stop.Refused number why)) not h quiet = written-on input source output sink after h quiet
finish-cause input source output sink after (Err stop.ReadFault) not h quiet = record { read = h.read; written = quiet ∙ h.written }
finish-cause input source output sink after (Err stop.WriteFault) not h quiet = cc
finish-cause input source output sink after (Err stop.NoMemory) not h quiet = written-on input source output sink after h quiet
finish-cause input source output sink after (Err (stop.Failed fault)) not h quiet = written-on input source output sink after h quiet

-- no write had failed before
pub unfailed : {W F : Type 0} (input source : Reading) (output sink : Writing) (settled : Result (Unit {0}) (Stop W F)) → has_write_fault settled ≡ false →
    HasEndCause input output source sink settled → sink.faults ≡ output.faults
unfailed input source output sink (Ok done) not h = h.written
unfailed input source output sink (Err (stop.Refused number why)) not h = h.written
unfailed input source output sink (Err stop.ReadFault) not h = h.written
unfailed input source output sink (Err stop.WriteFault) not h = cc
unfailed input source output sink (Err stop.NoMemory) not h = h.written
unfailed input source output sink (Err (stop.Failed fault)) not h = h.written

-- ---- the line of a refused line

-- ---- what was written when it is handed on

wrote-told : (Sort : List ℕ → List ℕ → Type 0) (input old now : Option (List ℕ)) (output : List ℕ) → Appends output old now →
    Tells input (λ bytes. Sort bytes output) → Wrote Sort input old now
wrote-told Sort None old now output appends sort = tt
wrote-told Sort (Some bytes) old now output appends sort = (output, appends, sort)

wrote : (Sort : List ℕ → List ℕ → Type 0) (input old now after : Option (List ℕ)) (waiting : List ℕ) →
    Owes Sort input old now waiting → Appends waiting now after → Wrote Sort input old after
wrote Sort input old now after waiting owes appends =
    wrote-told Sort input old after (owes.gone ++ waiting) (appends-both owes.gone waiting old now after owes.appended appends) owes.sort

cut-told : {W : Type 0} (m : Meaning W) (Sort : List ℕ → List ℕ → Type 0) → ((input output : List ℕ) → Sort input output → IsBegun m input output ⊎ IsRefused m input output) →
    (input : Option (List ℕ)) (output rest all : List ℕ) → all ≡ output ++ rest → Tells input (λ bytes. Sort bytes all) → Tells input (λ bytes. IsCut m bytes output)
cut-told m Sort goes None output rest all e sort = tt
cut-told m Sort goes (Some bytes) output rest all e sort = record { rest = rest; goes_on = rw (sym e) (goes bytes all sort) }

cut : {W : Type 0} (m : Meaning W) (Sort : List ℕ → List ℕ → Type 0) → ((input output : List ℕ) → Sort input output → IsBegun m input output ⊎ IsRefused m input output) →
    (input old now after : Option (List ℕ)) (waiting : List ℕ) → Owes Sort input old now waiting → AppendsPrefix waiting now after → Wrote (IsCut m) input old after
cut m Sort goes input old now after waiting owes prefix =
    wrote-told (IsCut m) input old after (owes.gone ++ prefix.prefix) (appends-both owes.gone prefix.prefix old now after owes.appended prefix.appends)
    (cut-told m Sort goes input (owes.gone ++ prefix.prefix) prefix.behind (owes.gone ++ waiting)
    (ap (λ s. owes.gone ++ s) prefix.splits ∙ sym (append_assoc owes.gone prefix.prefix prefix.behind)) owes.sort)

from_whole : {W : Type 0} (m : Meaning W) (input output : List ℕ) → IsWhole m input output → IsBegun m input output ⊎ IsRefused m input output
from_whole m input output w =
    inl (record { before = lines input; behind = []; split = sym (append-nil (lines input)); accepted = w.accepted; text = w.text })

-- all was handed on
pub finished : {W F : Type 0} (m : Meaning W) (Keeps : List (List ℕ) → Type 0) (input source : Reading) (output sink after : Writing) (waiting : List ℕ) (settled : Result (Unit {0}) (Stop W F)) →
    has_write_fault settled ≡ false → Settled m Keeps input output waiting source sink settled → Appends waiting sink.written after.written →
    Finished m Keeps input output source after settled
finished m Keeps input source output sink after waiting (Ok done) not h appends = (wrote _ _ _ _ _ waiting h.0 appends, h.1, h.2)
finished m Keeps input source output sink after waiting (Err (stop.Refused number why)) not h appends = (wrote _ _ _ _ _ waiting h.0 appends, h.1)
finished m Keeps input source output sink after waiting (Err stop.ReadFault) not h appends = wrote _ _ _ _ _ waiting h appends
finished m Keeps input source output sink after waiting (Err stop.WriteFault) not h appends = cc
finished m Keeps input source output sink after waiting (Err stop.NoMemory) not h appends = wrote _ _ _ _ _ waiting h appends
finished m Keeps input source output sink after waiting (Err (stop.Failed fault)) not h appends = wrote _ _ _ _ _ waiting h appends

-- the sink failed
pub finished-cut : {W F : Type 0} (m : Meaning W) (Keeps : List (List ℕ) → Type 0) (input source : Reading) (output sink after : Writing) (waiting : List ℕ) (settled : Result (Unit {0}) (Stop W F)) →
    has_write_fault settled ≡ false → Settled m Keeps input output waiting source sink settled → AppendsPrefix waiting sink.written after.written →
    Wrote (IsCut m) input.left output.written after.written
finished-cut m Keeps input source output sink after waiting (Ok done) not h prefix = cut m _ (from_whole m) _ _ _ _ waiting h.0 prefix
finished-cut m Keeps input source output sink after waiting (Err (stop.Refused number why)) not h prefix = cut m _ (λ input output (r : IsRefusedFor m number why input output). inr r.is) _ _ _ _ waiting h.0 prefix
finished-cut m Keeps input source output sink after waiting (Err stop.ReadFault) not h prefix = cut m _ (λ input output b. inl (begun-cut m source.left input output b)) _ _ _ _ waiting h prefix
finished-cut m Keeps input source output sink after waiting (Err stop.WriteFault) not h prefix = cc
finished-cut m Keeps input source output sink after waiting (Err stop.NoMemory) not h prefix = cut m _ (λ input output b. inl b) _ _ _ _ waiting h prefix
finished-cut m Keeps input source output sink after waiting (Err (stop.Failed fault)) not h prefix = cut m _ (λ input output b. inl b) _ _ _ _ waiting h prefix

-- ---- a sink that failed on the way

pub progress-cut : {W : Type 0} (m : Meaning W) (Keeps : List (List ℕ) → Type 0) (input : Reading) (output : Writing) (r : Reader) (waiting : List ℕ) (s : Reading) (sink after : Writing) →
    Progress m Keeps input output r waiting s sink → AppendsPrefix waiting sink.written after.written → Wrote (IsCut m) input.left output.written after.written
progress-cut m Keeps input output r waiting s sink after p prefix =
    cut m (IsBegun m) (λ input output b. inl b) input.left output.written sink.written after.written waiting
    (owes-begun m Keeps input output r waiting waiting s sink p p.reached.written) prefix

pub cut-ends : {W F : Type 0} (m : Meaning W) (Keeps : List (List ℕ) → Type 0) (input : Reading) (output : Writing) (r : Reader) (waiting waiting' : List ℕ) (s : Reading) (sink after : Writing) (why : Stop W F) →
    Progress m Keeps input output r waiting s sink → HandsOn sink.faults after.faults (Err why) → AppendsPrefix waiting sink.written after.written →
    Ends m Keeps input output waiting' s after (Err why)
cut-ends m Keeps input output r waiting waiting' s sink after (stop.Refused number why) p h prefix = absurd h
cut-ends m Keeps input output r waiting waiting' s sink after stop.ReadFault p h prefix = absurd h
cut-ends m Keeps input output r waiting waiting' s sink after stop.WriteFault p h prefix = progress-cut m Keeps input output r waiting s sink after p prefix
cut-ends m Keeps input output r waiting waiting' s sink after stop.NoMemory p h prefix = absurd h
cut-ends m Keeps input output r waiting waiting' s sink after (stop.Failed fault) p h prefix = absurd h

-- ---- a failure of the taker

pub carry-failed : {W F : Type 0} (Failed Carried : F → Type 0) → ((fault : F) → Failed fault → Carried fault) → (why : Stop W F) →
    HasFailed {A = Bool} Failed (Err why) → HasFailed {A = Unit {0}} Carried (Err why)
carry-failed Failed Carried on (stop.Refused number why) h = tt
carry-failed Failed Carried on stop.ReadFault h = tt
carry-failed Failed Carried on stop.WriteFault h = tt
carry-failed Failed Carried on stop.NoMemory h = tt
carry-failed Failed Carried on (stop.Failed fault) h = on fault h

pub no-failure : {W F : Type 0} (Failed : F → Type 0) (before now : ℕ) (why : Stop W F) → HandsOn before now (Err why) → HasFailed {A = Unit {0}} Failed (Err why)
no-failure Failed before now (stop.Refused number why) h = tt
no-failure Failed before now stop.ReadFault h = tt
no-failure Failed before now stop.WriteFault h = tt
no-failure Failed before now stop.NoMemory h = tt
no-failure Failed before now (stop.Failed fault) h = absurd h

failed-line : {W : Type 0} (m : Meaning W) (Keeps Fails : List (List ℕ) → Type 0) (input : Reading) (output : Writing) (r : Reader) (waiting : List ℕ) (s : Reading) (sink : Writing) →
    (p : Progress m Keeps input output r waiting s sink) → FailsLine Fails p.before (ahead r s) → FailedAt Fails input.left
failed-line m Keeps Fails input output r waiting s sink p h = record {
  taken = p.before ++ h.line ∷ [];
  fails = h.fails;
  are_first = first-with r s p.before input.left p.split h.bytes h.line h.behind h.told h.split;
}

pub failed-behind : {W F : Type 0} (m : Meaning W) (Keeps Fails : List (List ℕ) → Type 0) (input : Reading) (output : Writing) (r : Reader) (waiting : List ℕ) (s : Reading) (sink : Writing) (why : Stop W F) →
    (p : Progress m Keeps input output r waiting s sink) → HasFailed {A = Bool} (λ _. FailsLine Fails p.before (ahead r s)) (Err why) → HasFailed {A = Unit {0}} (λ _. FailedAt Fails input.left) (Err why)
failed-behind m Keeps Fails input output r waiting s sink (stop.Refused number why) p h = tt
failed-behind m Keeps Fails input output r waiting s sink stop.ReadFault p h = tt
failed-behind m Keeps Fails input output r waiting s sink stop.WriteFault p h = tt
failed-behind m Keeps Fails input output r waiting s sink stop.NoMemory p h = tt
failed-behind m Keeps Fails input output r waiting s sink (stop.Failed fault) p h = failed-line m Keeps Fails input output r waiting s sink p h

-- ---- a sink that failed before

pub stays-cut : {W F : Type 0} (m : Meaning W) (Keeps : List (List ℕ) → Type 0) (input source : Reading) (output sink : Writing) (waiting : List ℕ) (settled : Result (Unit {0}) (Stop W F)) →
    has_write_fault settled ≡ true → Settled m Keeps input output waiting source sink settled → Finished m Keeps input output source sink settled
stays-cut m Keeps input source output sink waiting (Ok done) is h = cc
stays-cut m Keeps input source output sink waiting (Err (stop.Refused number why)) is h = cc
stays-cut m Keeps input source output sink waiting (Err stop.ReadFault) is h = cc
stays-cut m Keeps input source output sink waiting (Err stop.WriteFault) is h = h
stays-cut m Keeps input source output sink waiting (Err stop.NoMemory) is h = cc
stays-cut m Keeps input source output sink waiting (Err (stop.Failed fault)) is h = cc
