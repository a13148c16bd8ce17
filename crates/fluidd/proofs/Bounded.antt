-- How many clients and ops the words can ask for.
use Rattle.std.proofs.Common.{◌≡◌, ℕ, Bool, true, false, List, [], ◌∷◌, Option, Some, None, codes, refl, subst}
use Rattle.std.proofs.lemmas.Bool.{and_parts, leb-true}
use Rattle.std.specs.Prelude.{IfSome, if◌then◌else◌, option_and_then, option_map, nat_le, ◌&&◌}
use Rattle.clap.specs.Walk.{Row, Text, first_of}
use Rattle.fluid_types.specs.Names.{is_name}
use Rattle.fluid_words.specs.Numbers.{within, number_in}
use Rattle.fluid_words.specs.Found.{found}
use Rattle.fluid_words.specs.Words.{sequence, script, load, workload, serve, number_of, load_of, load_by, workload_by, serve_by, is_flagged, named, behind, is_word, spelled, or_usage}
use Rattle.fluid_words.specs.declared.command.Command.{Command}
use Rattle.fluid_words.specs.declared.command.Command.TheVariants as a
use Rattle.fluid_words.specs.declared.command.CommandName.{CommandName}
use Rattle.fluid_words.specs.declared.command.CommandName.TheVariants as name
use Rattle.fluidd.specs.Workloads.{IsBetween}
use Rattle.fluidd.specs.Tasks.{Task, Doing, task_by, task_for, task_of}

-- the numbers of a command are as the words may have them
abbrev pub IsBounded : Command → Type 0
IsBounded (a.Workload number clients ops) = IsBetween 1 1000 clients × IsBetween 1 100000 ops
IsBounded other = Unit {0}

-- ---- options

through : {A B : Type 0} (P : A → Type 0) (Q : B → Type 0) (f : A → Option B) → ((x : A) → P x → IfSome (f x) Q) → (o : Option A) → IfSome o P → IfSome (option_and_then f o) Q
through P Q f each None h = tt
through P Q f each (Some x) h = each x h

mapped : {A B : Type 0} (P : A → Type 0) (Q : B → Type 0) (f : A → B) → ((x : A) → P x → Q (f x)) → (o : Option A) → IfSome o P → IfSome (option_map f o) Q
mapped P Q f each None h = tt
mapped P Q f each (Some x) h = each x h

either : {A : Type 0} (P : A → Type 0) (b : Bool) (x y : Option A) → IfSome x P → IfSome y P → IfSome (if b then x else y) P
either P true x y one other = one
either P false x y one other = other

anything : {A : Type 0} (o : Option A) → IfSome o (λ x. Unit {0})
anything None = tt
anything (Some x) = tt

-- ---- numbers

within_bounds : (least most n : ℕ) → IfSome (within least most n) (IsBetween least most)
within_bounds least most n = by (nat_le least n && nat_le n most) refl
  where
    by : (b : Bool) → (nat_le least n && nat_le n most) ≡ b → IfSome (if b then Some n else None) (IsBetween least most)
    by true is = let parts = and_parts (nat_le least n) (nat_le n most) is in (leb-true least n parts.0, leb-true n most parts.1)
    by false is = tt

number_bounds : (id : Text) (least most : ℕ) (rows : List Row) → IfSome (number_of id least most rows) (IsBetween least most)
number_bounds id least most rows =
    through (λ (word : Text). Unit {0}) (IsBetween least most) (λ word. option_and_then (within least most) (number_in word))
    (λ word all. through (λ (n : ℕ). Unit {0}) (IsBetween least most) (within least most) (λ n any. within_bounds least most n) (number_in word) (anything (number_in word))) (first_of id rows) (anything (first_of id rows))

-- ---- commands

load_bounds : (word : Text) → IfSome (load_of word) IsBounded
load_bounds word = either IsBounded (is_name word) (Some (a.Load word)) None tt tt

workload_bounds : (rows : List Row) → IfSome (workload_by rows) IsBounded
workload_bounds rows =
    through (λ (n : ℕ). Unit {0}) IsBounded _
    (λ number any. through (IsBetween 1 1000) IsBounded _
    (λ clients c. mapped (IsBetween 1 100000) IsBounded (λ ops. a.Workload number clients ops) (λ ops o. (c, o)) (number_of (codes "ops") 1 100000 rows) (number_bounds (codes "ops") 1 100000 rows))
    (number_of (codes "clients") 1 1000 rows) (number_bounds (codes "clients") 1 1000 rows))
    (number_of (codes "N") 0 18446744073709551615 rows) (anything (number_of (codes "N") 0 18446744073709551615 rows))

serve_bounds : (rows : List Row) → IfSome (serve_by rows) IsBounded
serve_bounds rows =
    through (λ (n : ℕ). Unit {0}) IsBounded _
    (λ port any. mapped (λ (n : ℕ). Unit {0}) IsBounded (λ connections. a.Serve port connections (is_flagged (codes "lines") rows)) (λ connections any. tt) (number_of (codes "connections") 0 4294967295 rows)
    (anything (number_of (codes "connections") 0 4294967295 rows)))
    (number_of (codes "PORT") 0 65535 rows) (anything (number_of (codes "PORT") 0 65535 rows))

behind_bounds : (topic : CommandName) (words : List Text) → IfSome (behind topic words) IsBounded
behind_bounds name.Sequence words = mapped (λ rows. Unit {0}) IsBounded (λ rows. a.Sequence) (λ rows any. tt) (found sequence words) (anything (found sequence words))
behind_bounds name.Script words = mapped (λ rows. Unit {0}) IsBounded (λ rows. a.Script) (λ rows any. tt) (found script words) (anything (found script words))
behind_bounds name.Load words =
    through (λ (rows : List Row). Unit {0}) IsBounded load_by (λ rows any. through (λ (word : Text). Unit {0}) IsBounded load_of (λ word any. load_bounds word) (first_of (codes "DOC") rows) (anything (first_of (codes "DOC") rows))) (found load words) (anything (found load words))
behind_bounds name.Workload words = through (λ (rows : List Row). Unit {0}) IsBounded workload_by (λ rows any. workload_bounds rows) (found workload words) (anything (found workload words))
behind_bounds name.Serve words = through (λ (rows : List Row). Unit {0}) IsBounded serve_by (λ rows any. serve_bounds rows) (found serve words) (anything (found serve words))

spelled_bounds : (words : List Text) → IfSome (spelled words) IsBounded
spelled_bounds [] = tt
spelled_bounds (first ∷ words) =
    either IsBounded (is_word (codes "--help") (first ∷ words)) (Some (a.Help None)) _ tt
    (either IsBounded (is_word (codes "--version") (first ∷ words)) (Some a.Version) _ tt
    (through (λ (topic : CommandName). Unit {0}) IsBounded (λ topic. if is_word (codes "--help") words then Some (a.Help (Some topic)) else behind topic words)
    (λ topic any. either IsBounded (is_word (codes "--help") words) (Some (a.Help (Some topic))) (behind topic words) tt (behind_bounds topic words)) (named first) (anything (named first))))

-- ---- tasks

-- what a task asks to be done
abbrev pub TaskBounded : Task → Type 0
TaskBounded (Doing command) = IsBounded command
TaskBounded other = Unit {0}

task_bounds : (command : Command) → IsBounded command → TaskBounded (task_by command)
task_bounds a.Sequence is = is
task_bounds a.Script is = is
task_bounds (a.Load document) is = is
task_bounds (a.Workload number clients ops) is = is
task_bounds (a.Serve port connections lines) is = is
task_bounds (a.Help None) is = tt
task_bounds (a.Help (Some name.Sequence)) is = tt
task_bounds (a.Help (Some name.Script)) is = tt
task_bounds (a.Help (Some name.Load)) is = tt
task_bounds (a.Help (Some name.Workload)) is = tt
task_bounds (a.Help (Some name.Serve)) is = tt
task_bounds a.Version is = tt

asked_bounds : (o : Option Command) → IfSome o IsBounded → TaskBounded (task_for (or_usage o))
asked_bounds None is = tt
asked_bounds (Some command) is = task_bounds command is

pub bounded : (words : List Text) → TaskBounded (task_of words)
bounded words = asked_bounds (spelled words) (spelled_bounds words)

pub work_bounds : (words : List Text) (number clients ops : ℕ) → task_of words ≡ Doing (a.Workload number clients ops) → IsBetween 1 1000 clients × IsBetween 1 100000 ops
work_bounds words number clients ops is = subst TaskBounded is (bounded words)
