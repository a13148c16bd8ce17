-- Scopes, a word at a time, for private clauses.
use Rattle.std.specs.Prelude.{ℕ, List, ◌||◌, bytes_eq, Ok}
use Rattle.fluid_json.specs.Tree.{Trees}
use Rattle.fluid_types.specs.Forms.{Read, ◌>>=◌, texts}
use Rattle.fluid_types.specs.Records.{scopes_of}
use Rattle.fluid_types.specs.declared.fault.Field.{Field}
use Rattle.fluid_types.specs.Words.{read_word, write_word, summary_word}
use Rattle.fluid_types.specs.declared.entries.Scopes.{Scopes}

-- these scopes, and the one that the word names
abbrev pub and_scope : Scopes → List ℕ → Scopes
and_scope s word = record {
  read = s.read || bytes_eq read_word word;
  write = s.write || bytes_eq write_word word;
  summary = s.summary || bytes_eq summary_word word;
}

-- the scopes that these values name, or the fault of the first that is no text
abbrev pub named_scopes : Field → Trees → Read Scopes
named_scopes f ts = texts f ts >>= λ words. Ok (scopes_of words)
