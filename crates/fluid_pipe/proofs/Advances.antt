-- How a run goes on: from its start, over one line more, and over what is handed to the sink.
use Rattle.std.proofs.Common.{◌≡◌, ℕ, List, [], ◌∷◌, ◌++◌, refl, sym, ◌∙◌, ap, append-nil, append_assoc, false, Option, None, Some}
use Rattle.std.specs.Option.{option_map}
use Rattle.std.specs.Str.Lines.{lines}
use Rattle.fluid_io.specs.Causes.{Tells}
use Rattle.fluid_io.specs.Streams.{Reading, Writing, Appends}
use Rattle.fluid_io.specs.Reader.{Reader}
use Rattle.fluid_io.specs.Lines.{ahead, lines_ahead}
use Rattle.fluid_io.specs.declared.lines.TheConstants.{LONGEST_TEXT}
use Rattle.fluid_pipe.specs.Meaning.{Meaning}
use Rattle.fluid_pipe.specs.Progress.{HandedOn, TakesLine, Progress}
use Rattle.fluid_pipe.proofs.WholeLines.{read-none, read-more}

-- ---- what is written

pub appends-none : (w : Option (List ℕ)) → Appends [] w w
appends-none None = refl
appends-none (Some bytes) = ap Some (sym (append-nil bytes))

pub appends-both : (a b : List ℕ) (old now after : Option (List ℕ)) → Appends a old now → Appends b now after → Appends (a ++ b) old after
appends-both a b None now after h k = k ∙ ap (option_map (λ s. s ++ b)) h
appends-both a b (Some bytes) now after h k = k ∙ ap (option_map (λ s. s ++ b)) h ∙ ap Some (append_assoc bytes a b)

-- ---- the start

split-start : (left : Option (List ℕ)) → option_map lines left ≡ option_map (λ more. [] ++ more) (option_map lines (option_map (λ rest. [] ++ rest) left))
split-start None = refl
split-start (Some bytes) = refl

pub starts : {W : Type 0} (m : Meaning W) (Keeps : List (List ℕ) → Type 0) (input : Reading) (output : Writing) (waiting : List ℕ) → Keeps [] → waiting ≡ [] →
    Progress m Keeps input output (record { held = []; count = 0; failed = false; limit = LONGEST_TEXT }) waiting input output
starts m Keeps input output waiting keeps none = record {
  before = [];
  gone = [];
  reached = record { number = refl; limit = refl; reading = refl; accepted = tt; keeps = keeps; written = none ∙ sym m.none };
  split = split-start input.left;
  read = read-none input.left;
  appended = appends-none output.written;
}

-- ---- one line more

split-more : (before : List (List ℕ)) (line : List ℕ) (new : Option (List (List ℕ))) →
    option_map (λ more. before ++ more) (option_map (λ more. line ∷ more) new) ≡ option_map (λ more. (before ++ line ∷ []) ++ more) new
split-more before line None = refl
split-more before line (Some more) = ap Some (sym (append_assoc before (line ∷ []) more))

pub takes : {W : Type 0} (m : Meaning W) (Keeps Kept : List (List ℕ) → Type 0) (input : Reading) (output : Writing) (r r' : Reader) (waiting waiting' : List ℕ) (s s' : Reading) (sink : Writing) →
    (p : Progress m Keeps input output r waiting s sink) → TakesLine m Kept p.before p.gone (ahead r s) (ahead r' s') r' waiting' →
    Progress m Kept input output r' waiting' s' sink
takes m Keeps Kept input output r r' waiting waiting' s s' sink p t = record {
  before = p.before ++ t.line ∷ [];
  gone = p.gone;
  reached = t.reached;
  split = p.split ∙ ap (option_map (λ more. p.before ++ more)) t.passes.first ∙ split-more p.before t.line (lines_ahead r' s');
  read = read-more input.left (ahead r s) (ahead r' s') p.before t.line t.passes p.read;
  appended = p.appended;
}

-- ---- lines that are handed on

pub hands_on : {W : Type 0} (m : Meaning W) (Keeps : List (List ℕ) → Type 0) (input : Reading) (output : Writing) (r : Reader) (waiting waiting' : List ℕ) (s : Reading) (sink sink' : Writing) →
    Progress m Keeps input output r waiting s sink → HandedOn waiting waiting' sink sink' → Progress m Keeps input output r waiting' s sink'
hands_on m Keeps input output r waiting waiting' s sink sink' p h = record {
  before = p.before;
  gone = p.gone ++ h.gone;
  reached = record {
    number = p.reached.number;
    limit = p.reached.limit;
    reading = p.reached.reading;
    accepted = p.reached.accepted;
    keeps = p.reached.keeps;
    written = append_assoc p.gone h.gone waiting' ∙ ap (λ s. p.gone ++ s) (sym h.split) ∙ p.reached.written;
  };
  split = p.split;
  read = p.read;
  appended = appends-both p.gone h.gone output.written sink.written sink'.written p.appended h.appended;
}

-- ---- the end of the input

none-behind : (held left : List ℕ) → held ++ left ≡ [] → left ≡ []
none-behind [] left h = h
none-behind (x ∷ held) left h = cc

-- where no byte is ahead, the source has none left
pub none-left : (held : List ℕ) (left : Option (List ℕ)) → Tells (option_map (λ rest. held ++ rest) left) (λ bytes. bytes ≡ []) → Tells left (λ bytes. bytes ≡ [])
none-left held None h = tt
none-left held (Some rest) h = none-behind held rest h
