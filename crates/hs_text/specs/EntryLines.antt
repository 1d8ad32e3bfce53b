-- The line of an entry: `ID:/expression/flags`, with `{name=N,..}` behind it where parameters are given.
use Rattle.std.specs.Prelude.{◌≡◌, ℕ, ◌^◌, List, ◌++◌, codes}
use Rattle.hs_base.specs.declared.ext.Ext.{Ext}
use Rattle.hs_base.specs.Entries.{ListedEntry}
use Rattle.hs_text.specs.Numbers.{IsNumber}
use Rattle.hs_text.specs.FlagLetters.{AreFlags}
use Rattle.hs_text.specs.Parameters.{no_parameters, AreSettings}

-- Behind the expression stand letters of flags, and the parameters in braces where some are given.
pub data HasTail (tail : List ℕ) (flags : ℕ) (ext : Ext) : Type 0 where
  bare : AreFlags tail flags → ext ≡ no_parameters → HasTail tail flags ext
  braced : (letters settings : List ℕ) →
      tail ≡ letters ++ (codes "{" ++ (settings ++ codes "}")) →
      AreFlags letters flags →
      AreSettings settings no_parameters ext →
      HasTail tail flags ext

-- The line says this entry. No flag and no parameter has a `/`, so the expression ends before the line's last one.
pub record IsEntryLine (line : List ℕ) (entry : ListedEntry) : Type 0 where
  pub digits : List ℕ
  pub tail : List ℕ
  pub whole : line ≡ digits ++ (codes ":/" ++ (entry.text ++ (codes "/" ++ tail)))
  pub identifier : IsNumber 10 (2 ^ 32) digits entry.id
  pub asked : HasTail tail entry.flags entry.ext
