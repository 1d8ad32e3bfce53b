-- Settings of parameters: what their bytes aren't, and that they are read in one way.
use Rattle.std.proofs.Common.{◌≡◌, ◌≢◌, ℕ, ◌≤◌, eqb, cond, List, ◌∷◌, ◌++◌, get_or, refl, sym, ap, ◌∙◌, subst, arith, rules, Option, Some, None, MatchOption}
use Rattle.hs_base.specs.Lists.{Each}
use Rattle.hs_base.specs.declared.ext.Ext.{Ext}
use Rattle.hs_base.proofs.ListLemmas.{each-append}
use Rattle.hs_text.specs.declared.parameter.Parameter.{Parameter}
use Rattle.hs_text.specs.declared.parameter.Parameter.TheVariants.{MinOffset, MaxOffset, MinLength, EditDistance, HammingDistance}
use Rattle.hs_text.specs.Numbers.{IsDigit, value_from}
use Rattle.hs_text.specs.Parameters.{name_of, with_value, no_parameters, Sets, AreSettings, one, more}
use Rattle.hs_text.proofs.CutLemmas.{AreSame, each-weaken, no_separator, cut_once}
use Rattle.hs_text.proofs.NumberLemmas.{number_apart}

-- one of `_` to `z`
abbrev pub IsNameByte : ℕ → Type 0
IsNameByte b = (95 ≤ b) × (b ≤ 122)

name_bytes : (p : Parameter) → Each IsNameByte (name_of p)
name_bytes MinOffset = search rules
name_bytes MaxOffset = search rules
name_bytes MinLength = search rules
name_bytes EditDistance = search rules
name_bytes HammingDistance = search rules

name_apart : (c : ℕ) (p : Parameter) → (IsNameByte c → ⊥) → Each (λ b. b ≢ c) (name_of p)
name_apart c p other = each-weaken IsNameByte (λ b. b ≢ c) (name_of p) (λ b named e. other (subst IsNameByte e named)) (name_bytes p)

-- the parameter of a name, by two of its bytes
parameter_of : List ℕ → Parameter
parameter_of name =
    cond (eqb (get_or name 1 0) 97)
    (cond (eqb (get_or name 4 0) 111) MaxOffset HammingDistance)
    (cond (eqb (get_or name 1 0) 100) EditDistance (cond (eqb (get_or name 4 0) 111) MinOffset MinLength))

parameter_of-name : (p : Parameter) → parameter_of (name_of p) ≡ p
unfolding parameter_of
parameter_of-name MinOffset = refl
parameter_of-name MaxOffset = refl
parameter_of-name MinLength = refl
parameter_of-name EditDistance = refl
parameter_of-name HammingDistance = refl

-- no two parameters have one name
pub name_once : (p q : Parameter) → name_of p ≡ name_of q → p ≡ q
name_once p q e = sym (parameter_of-name p) ∙ (ap parameter_of e ∙ parameter_of-name q)

-- the parts of a setting
pub setting_parts : (text name digits : List ℕ) (before after : Ext) → text ≡ name ++ 61 ∷ digits → Each (λ b. b ≢ 61) name → (h : Sets text before after) → AreSame name (name_of h.parameter) digits h.digits
setting_parts text name digits before after whole clear h =
    cut_once 61 name (name_of h.parameter) digits h.digits clear (name_apart 61 h.parameter (λ named. absurd (omega arith))) (sym whole ∙ h.whole)

-- a byte that is in no name and no number, and isn't `=`, isn't in a setting
pub setting_apart : (c : ℕ) → (IsNameByte c → ⊥) → (IsDigit c → ⊥) → (61 ≡ c → ⊥) → {text : List ℕ} {before after : Ext} → Sets text before after → Each (λ b. b ≢ c) text
setting_apart c no_name no_digit no_sign p =
    subst
    (λ t. Each (λ b. b ≢ c) t)
    (sym p.whole)
    (each-append (λ b. b ≢ c) (name_of p.parameter) (61 ∷ p.digits) (name_apart c p.parameter no_name) (no_sign, number_apart c no_digit p.number))

same_given : (before : Ext) {p q : Parameter} {v w : ℕ} → p ≡ q → v ≡ w → with_value before p v ≡ with_value before q w
same_given before {p} {q} {v} {w} e f = ap (λ r. with_value before r v) e ∙ ap (λ n. with_value before q n) f

-- a setting gives one thing
pub sets_once : {text : List ℕ} {before a b : Ext} → Sets text before a → Sets text before b → a ≡ b
sets_once {text} {before} {a} {b} p q =
    let parts = setting_parts text (name_of p.parameter) p.digits before b p.whole (name_apart 61 p.parameter (λ named. absurd (omega arith))) q in
    p.given
    ∙ (same_given before
    (name_once p.parameter q.parameter parts.left)
    (sym p.number.spelled ∙ (ap (value_from 0) parts.right ∙ q.number.spelled))
    ∙ sym q.given)

no_comma : {text : List ℕ} {before after : Ext} → Sets text before after → Each (λ b. b ≢ 44) text
no_comma p = setting_apart 44 (λ named. absurd (omega arith)) (λ digit. absurd (omega arith)) (λ e. omega arith) p

-- settings behind a first one
pub record AreSettingsBehind (setting rest : List ℕ) (before after : Ext) : Type 0 where
  pub between : Ext
  pub first : Sets setting before between
  pub others : AreSettings rest between after

-- a first setting, and those behind its comma
pub settings_split : (text setting rest : List ℕ) (before after : Ext) → text ≡ setting ++ 44 ∷ rest → Each (λ b. b ≢ 44) setting → AreSettings text before after → AreSettingsBehind setting rest before after
settings_split text setting rest before after whole clear (one s) =
    absurd (no_separator 44 setting rest (subst (λ t. Each (λ b. b ≢ 44) t) whole (no_comma s)))
settings_split text setting rest before after whole clear (more {setting = setting'} {rest = rest'} {between = between} whole' s others) =
    let parts = cut_once 44 setting' setting rest' rest (no_comma s) clear (sym whole' ∙ whole) in
    record {
      between = between;
      first = subst (λ t. Sets t before between) parts.left s;
      others = subst (λ t. AreSettings t between after) parts.right others;
    }

-- without a comma there is one setting
pub settings_single : (text : List ℕ) (before after : Ext) → Each (λ b. b ≢ 44) text → AreSettings text before after → Sets text before after
settings_single text before after clear (one s) = s
settings_single text before after clear (more {setting = setting} {rest = rest} whole s others) =
    absurd (no_separator 44 setting rest (subst (λ t. Each (λ b. b ≢ 44) t) whole clear))

-- those behind the first setting, where that gives `between`
pub settings_behind : (text setting rest : List ℕ) (before between after : Ext) → text ≡ setting ++ 44 ∷ rest → Each (λ b. b ≢ 44) setting → Sets setting before between → AreSettings text before after → AreSettings rest between after
settings_behind text setting rest before between after whole clear s all =
    let split = settings_split text setting rest before after whole clear all in
    subst (λ e. AreSettings rest e after) (sets_once split.first s) split.others

-- settings give one thing
pub settings_once : {text : List ℕ} {before a b : Ext} → AreSettings text before a → AreSettings text before b → a ≡ b
settings_once {text} {before} {a} {b} (one s) q = sets_once s (settings_single text before b (no_comma s) q)
settings_once {text} {before} {a} {b} (more {setting = setting} {rest = rest} {between = between} whole s others) q =
    settings_once others (settings_behind text setting rest before between b whole (no_comma s) s q)

-- settings have no `/`
pub settings_apart : {text : List ℕ} {before after : Ext} → AreSettings text before after → Each (λ b. b ≢ 47) text
settings_apart (one s) = setting_apart 47 (λ named. absurd (omega arith)) (λ digit. absurd (omega arith)) (λ e. omega arith) s
settings_apart (more {setting = setting} {rest = rest} whole s others) =
    subst
    (λ t. Each (λ b. b ≢ 47) t)
    (sym whole)
    (each-append (λ b. b ≢ 47) setting (44 ∷ rest) (setting_apart 47 (λ named. absurd (omega arith)) (λ digit. absurd (omega arith)) (λ e. omega arith) s) ((λ e. omega arith), settings_apart others))

-- what the last setting gives is what all give
pub settings_end : (r : Option Ext) (all rest : List ℕ) (ext : Ext) → Each (λ b. b ≢ 44) rest → ((after : Ext) → AreSettings rest ext after → AreSettings all no_parameters after) → ((after : Ext) → AreSettings all no_parameters after → AreSettings rest ext after) → MatchOption r ((after : Ext) → Sets rest ext after → ⊥) (λ after. Sets rest ext after) → MatchOption r ((after : Ext) → AreSettings all no_parameters after → ⊥) (λ after. AreSettings all no_parameters after)
settings_end None all rest ext clear whole behind none = λ after h. none after (settings_single rest ext after clear (behind after h))
settings_end (Some after) all rest ext clear whole behind s = whole after (one s)
