-- From what is found for a command to what it asks for.
use Rattle.std.proofs.Common.{◌≡◌, ◌⊎◌, Bool, true, List, [], ◌∷◌, false, cond, Option, Some, None, Result, Ok, Err, refl, sym, ◌∙◌, ap, subst, inl, inr, arith}
use Rattle.std.specs.Prelude.{option_and_then, option_map}
use Rattle.std.proofs.lemmas.Bool.{ne_eqb}
use Rattle.clap.specs.Walk.{Row, Text, is_empty, rows_of}
use Rattle.clap.specs.Simple.{App, matches_of}
use Rattle.clap.specs.Faults.{fault_of}
use Rattle.clap.specs.Kinds.{Kinds, IsAmong}
use Rattle.clap.specs.Matches.{found_of}
use Rattle.clap.specs.declared.error.kind.ErrorKind.{ErrorKind}
use Rattle.clap.specs.declared.error.kind.ErrorKind.TheVariants as kind
use Rattle.clap.specs.declared.parser.matches.ArgMatches.{ArgMatches}
use Rattle.fluid_json.specs.Unless.{IsUnless}
use Rattle.fluid_words.specs.Found.{AreWordsOf, IsFound, fault_by, found}
use Rattle.fluid_types.specs.Names.{is_name, read_name}
use Rattle.fluid_types.specs.declared.names.NameFault.TheVariants as name-fault
use Rattle.fluid_types.specs.declared.names.NameFault.TheVariants.{BadName}
use Rattle.fluid_words.specs.Words.{load_of, or_usage}
use Rattle.fluid_words.specs.declared.command.Command.TheVariants as asked
use Rattle.fluid_words.specs.declared.command.Command.{Command}
use Rattle.fluid_words.specs.declared.command.WordsFault.{WordsFault}
use Rattle.fluid_words.specs.declared.command.WordsFault.TheVariants.{Usage, NoMemory}

-- ---- a fault of `clap`

some-kind : (k : ErrorKind) (kinds : Kinds) → IsAmong k kinds → is_empty kinds ≡ false
some-kind k [] h = absurd h
some-kind k (x ∷ xs) h = ne_eqb _ _ (λ e. omega arith)

pub fails : (app : App) (words : List Text) (k : ErrorKind) (f : WordsFault) → f ≡ fault_by k → (k ≡ kind.OutOfMemory) ⊎ IsAmong k (fault_of app words) →
    IsFound app words (Err f)
fails app words k NoMemory is h = tt
fails app words k Usage is (inl memory) = let bad : Usage ≡ NoMemory = is ∙ ap fault_by memory in cc
fails app words k Usage is (inr among) = ap (λ b. cond b (Some (matches_of app words)) None) (some-kind k (fault_of app words) among)

-- ---- what is found

pub reads : (by : List Row → Option Command) (app : App) (words : List Text) (m : ArgMatches) (r : Result Command WordsFault) → IsFound app words (Ok m) →
    IsUnless NoMemory r (or_usage (by (rows_of (found_of m)))) → IsUnless NoMemory r (or_usage (option_and_then by (found app words)))
reads by app words m r is h = subst (λ o. IsUnless NoMemory r (or_usage (option_and_then by o))) (sym is) h

pub reads-exactly : (by : List Row → Option Command) (app : App) (words : List Text) (m : ArgMatches) (r : Result Command WordsFault) → IsFound app words (Ok m) →
    r ≡ or_usage (by (rows_of (found_of m))) → IsUnless NoMemory r (or_usage (option_and_then by (found app words)))
reads-exactly by app words m r is h = reads by app words m r is (inr h)

pub reads-none : (by : List Row → Option Command) (app : App) (words : List Text) (f : WordsFault) → IsFound app words (Err f) →
    IsUnless NoMemory (Err f) (or_usage (option_and_then by (found app words)))
reads-none by app words NoMemory is = inl refl
reads-none by app words Usage is = inr (sym (ap (λ o. or_usage (option_and_then by o)) is))

-- ---- a command without arguments

pub asks : (wanted : Command) (app : App) (words : List Text) → AreWordsOf app words (Ok tt) →
    IsUnless NoMemory (Ok wanted) (or_usage (option_map (λ rows. wanted) (found app words)))
asks wanted app words is = inr (sym (ap (λ (o : Option (List Row)). or_usage (option_map (λ rows. wanted) o)) is.1))

pub asks-none : (wanted : Command) (app : App) (words : List Text) (f : WordsFault) → AreWordsOf app words (Err f) →
    IsUnless NoMemory (Err f) (or_usage (option_map (λ rows. wanted) (found app words)))
asks-none wanted app words NoMemory is = inl refl
asks-none wanted app words Usage is = inr (sym (ap (λ (o : Option (List Row)). or_usage (option_map (λ rows. wanted) o)) is))

-- ---- a document's name

ok-by : (b : Bool) (word name : Text) → Ok name ≡ cond b (Ok word) (Err BadName) → Ok (asked.Load name) ≡ or_usage (cond b (Some (asked.Load word)) None)
ok-by true word name h = let same : name ≡ word = cc in ap (λ n. Ok (asked.Load n)) same
ok-by false word name h = cc

bad-by : (b : Bool) (word : Text) → Err BadName ≡ cond b (Ok word) (Err BadName) → Err Usage ≡ or_usage (cond b (Some (asked.Load word)) None)
bad-by true word h = cc
bad-by false word h = refl

pub loads : (word name : Text) → IsUnless name-fault.NoMemory (Ok name) (read_name word) → Ok (asked.Load name) ≡ or_usage (load_of word)
loads word name (inl h) = cc
loads word name (inr h) = ok-by (is_name word) word name h

pub loads-none : (word : Text) → IsUnless name-fault.NoMemory (Err BadName) (read_name word) → Err Usage ≡ or_usage (load_of word)
loads-none word (inl h) = cc
loads-none word (inr h) = bad-by (is_name word) word h
