-- Reading a source in pieces.
use Rattle.std.proofs.Common.{◌≡◌, ℕ, List, [], ◌++◌, Option, None, Some, sym, subst, ◌∙◌, ap, refl, append_assoc, append-nil}
use Rattle.hs_outside.specs.Source.{Gave, IsAtEnd, IsWhole}

-- nothing was given
pub Gave-nothing : (now : Option (List ℕ)) → Gave now now []
Gave-nothing None = tt
Gave-nothing (Some now) = refl

-- what is left as it was gave nothing
pub Gave-same : (before now : Option (List ℕ)) → now ≡ before → Gave before now []
Gave-same before now same = subst (λ (w : Option (List ℕ)). Gave before w []) (sym same) (Gave-nothing before)

-- one piece after another
pub Gave-append : (before now later : Option (List ℕ)) (seen piece : List ℕ) → Gave before now seen → Gave now later piece → Gave before later (seen ++ piece)
Gave-append None None None seen piece h k = tt
Gave-append None None (Some later) seen piece h k = k
Gave-append None (Some now) later seen piece h k = absurd h
Gave-append (Some before) None later seen piece h k = absurd h
Gave-append (Some before) (Some now) None seen piece h k = absurd k
Gave-append (Some before) (Some now) (Some later) seen piece h k = h ∙ ap (λ (x : List ℕ). seen ++ x) k ∙ sym (append_assoc seen piece later)

-- a failed read leaves what was left, so what was given is as it was
pub Gave-then_same : (before now later : Option (List ℕ)) (seen : List ℕ) → Gave before now seen → later ≡ now → Gave before later seen
Gave-then_same before now later seen h same = subst (λ (w : Option (List ℕ)). Gave before w seen) (sym same) h

-- at the end all that was left was given
pub IsWhole-at_end : (before now : Option (List ℕ)) (seen : List ℕ) → Gave before now seen → IsAtEnd now → IsWhole before seen
IsWhole-at_end None None seen h end = tt
IsWhole-at_end None (Some now) seen h end = absurd h
IsWhole-at_end (Some before) None seen h end = absurd h
IsWhole-at_end (Some before) (Some now) seen h end = h ∙ ap (λ (x : List ℕ). seen ++ x) end ∙ append-nil seen
