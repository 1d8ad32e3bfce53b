-- The five lines, as they are written.
use Rattle.std.proofs.Common.{◌≡◌, ◌∙◌, ℕ, List, ◌++◌, codes, refl, ap, append_assoc}

-- what stands behind both parts stands behind the second
push : (a r t u : List ℕ) → r ++ t ≡ u → (a ++ r) ++ t ≡ a ++ u
push a r t u same = append_assoc a r t ∙ ap (λ l. a ++ l) same

-- the end of the text stands behind all that is before it
pub regroup : (e b r ec es cc cs : List ℕ) →
    codes "expressions " ++ ((e ++ (codes "\nbytes " ++ (b ++ (codes "\nregion " ++ (r ++ (codes "\neven " ++ (ec ++ (codes " " ++ (es ++ (codes "\ncut " ++ cc)))))))))) ++ (codes " " ++ (cs ++ codes "\n")))
    ≡ codes "expressions " ++ (e ++ (codes "\nbytes " ++ (b ++ (codes "\nregion " ++ (r ++ (codes "\neven " ++ (ec ++ (codes " " ++ (es ++ (codes "\ncut " ++ (cc ++ (codes " " ++ (cs ++ codes "\n")))))))))))))
regroup e b r ec es cc cs =
    let t : List ℕ = codes " " ++ (cs ++ codes "\n") in
    let r5 : List ℕ = codes "\ncut " ++ cc in
    let r4 : List ℕ = codes " " ++ (es ++ r5) in
    let r3 : List ℕ = codes "\neven " ++ (ec ++ r4) in
    let r2 : List ℕ = codes "\nregion " ++ (r ++ r3) in
    let r1 : List ℕ = codes "\nbytes " ++ (b ++ r2) in
    let u5 : List ℕ = codes "\ncut " ++ (cc ++ t) in
    let u4 : List ℕ = codes " " ++ (es ++ u5) in
    let u3 : List ℕ = codes "\neven " ++ (ec ++ u4) in
    let u2 : List ℕ = codes "\nregion " ++ (r ++ u3) in
    let u1 : List ℕ = codes "\nbytes " ++ (b ++ u2) in
    let q5 : (es ++ r5) ++ t ≡ es ++ u5 = push es r5 t u5 refl in
    let q4 : (ec ++ r4) ++ t ≡ ec ++ u4 = push ec r4 t u4 (ap (λ l. codes " " ++ l) q5) in
    let q3 : (r ++ r3) ++ t ≡ r ++ u3 = push r r3 t u3 (ap (λ l. codes "\neven " ++ l) q4) in
    let q2 : (b ++ r2) ++ t ≡ b ++ u2 = push b r2 t u2 (ap (λ l. codes "\nregion " ++ l) q3) in
    ap (λ l. codes "expressions " ++ l) (push e r1 t u1 (ap (λ l. codes "\nbytes " ++ l) q2))
