-- Writes of any stream, one after the other.
use Rattle.std.proofs.Common.{◌≡◌, ℕ, ◌+◌, ◌<◌, ◌≤◌, List, [], ◌∷◌, ◌++◌, length, refl, sym, ap, ◌∙◌, subst, arith, length-append}
use Rattle.hs_base.specs.Lists.{Each, IsMember, IsRising}
use Rattle.hs_base.specs.Told.{Pair}
use Rattle.hs_base.proofs.ListLemmas.{each-append, rising-append}
use Rattle.hs_reports.specs.Events.{Takes, Through, still}
use Rattle.hs_compile.specs.Databases.{Compiled}
use Rattle.hs_stream.specs.declared.stream.Stream.{Stream}
use Rattle.hs_stream.specs.Foreign.{MayTell, MayWrite}
use Rattle.hs_stream.specs.Streams.{IsStreamOf, StreamsAreWellFormed, offset_of, region_of}
use Rattle.hs_stream.proofs.JoinLemmas.{writes-none, writes-more}
use Rattle.hs_stream.proofs.PackedLemmas.{kept-exact}
use Rattle.hs_tool.specs.Scanning.{IsWritten}

-- what holds of each, by what held of each
pub each_by : {A : Type 0} {P Q : A → Type 0} → ((x : A) → P x → Q x) → (xs : List A) → Each P xs → Each Q xs
each_by weaker [] each = tt
each_by weaker (x ∷ xs) each = (weaker x each.0, each_by weaker xs each.1)

-- each end is no less than those before
across : (xs ys : List Pair) (low mid high : ℕ) → Each (λ p. (low ≤ p.to) × (p.to ≤ mid)) xs → Each (λ p. (mid ≤ p.to) × (p.to ≤ high)) ys → Each (λ x. Each (λ y. x.to ≤ y.to) ys) xs
across xs ys low mid high front back =
    each_by (λ x own. each_by (λ y other. let a = own.1 in let b = other.0 in omega (arith, a, b)) ys back) xs front

pub tells-nothing : (db : Compiled) (low high : ℕ) → MayTell db low high []
tells-nothing db low high = record { named = λ plan is. tt; bounded = tt; rising = tt }

-- what was told of two parts, one after the other
pub tells-join : (db : Compiled) (low mid high : ℕ) (xs ys : List Pair) → low ≤ mid → mid ≤ high → MayTell db low mid xs → MayTell db mid high ys → MayTell db low high (xs ++ ys)
tells-join db low mid high xs ys first second front back = record {
  named = λ plan is. each-append (λ pair. IsMember pair.id plan.identifiers) xs ys (front.named plan is) (back.named plan is);
  bounded =
      each-append (λ pair. (low ≤ pair.to) × (pair.to ≤ high)) xs ys
      (each_by (λ p own. let a = own.1 in (own.0, omega (arith, a, second))) xs front.bounded)
      (each_by (λ p own. let a = own.0 in (omega (arith, a, first), own.1)) ys back.bounded);
  rising = rising-append (λ x y. x.to ≤ y.to) xs ys front.rising back.rising (across xs ys low mid high front.bounded back.bounded);
}

front_nothing : (x y : List ℕ) → x ++ y ≡ [] → x ≡ []
front_nothing [] y e = refl
front_nothing (x ∷ xs) y e = cc

behind_nothing : (x y : List ℕ) → x ++ y ≡ [] → y ≡ []
behind_nothing [] y e = e
behind_nothing (x ∷ xs) y e = cc

no_pairs : {xs ys : List Pair} → xs ≡ [] → ys ≡ [] → xs ++ ys ≡ []
no_pairs {xs} {ys} e f = ap (λ l. l ++ ys) e ∙ f

pub written-none : (db : Compiled) (stream : Stream) → IsWritten db stream stream [] []
written-none db stream = record {
  writes = writes-none db stream;
  tells = tells-nothing db (offset_of stream) (offset_of stream);
  offset = omega arith;
  well = λ plan is well. well;
  idle = λ e. (refl, refl);
}

pub written-more : (db : Compiled) (a b c : Stream) (x y : List ℕ) (xs ys : List Pair) → IsWritten db a b x xs → IsWritten db b c y ys → IsWritten db a c (x ++ y) (xs ++ ys)
written-more db a b c x y xs ys first second = record {
  writes = writes-more db a b c x y xs ys first.writes second.writes;
  tells =
      tells-join db (offset_of a) (offset_of b) (offset_of c) xs ys (omega (arith, first.offset)) (omega (arith, second.offset)) first.tells second.tells;
  offset = omega (arith, first.offset, second.offset, length-append x y);
  well = λ plan is well. second.well plan is (first.well plan is well);
  idle = λ e.
      let front = first.idle (front_nothing x y e) in
      let back = second.idle (behind_nothing x y e) in
      (back.0 ∙ front.0, no_pairs front.1 back.1);
}

-- one write
one : {db : Compiled} {old new : Stream} {bytes : List ℕ} {pairs : List Pair} → IsStreamOf db new → (bytes ≡ [] → (region_of new ≡ region_of old) × (pairs ≡ [])) → MayWrite db old new bytes pairs → IsWritten db old new bytes pairs
one {db} {old} {new} fits idle may = record {
  writes = may.writes;
  tells = may.tells;
  offset = may.offset;
  well = λ plan is well. (kept-exact db plan is (region_of new) may.small).0 fits.region;
  idle = idle;
}

-- as a call of it tells it
pub takes-written : {V : Type 0} {Tells : V → ℕ → ℕ → V → Type 0} {start end : V} {db : Compiled} {old new : Stream} (bytes : List ℕ) → IsStreamOf db new → (bytes ≡ [] → (end ≡ start) × (new ≡ old)) → Takes Tells start end (MayWrite db old new bytes) → Takes Tells start end (IsWritten db old new bytes)
takes-written {Tells = Tells} {start = start} {db = db} {old = old} [] fits idle took =
    let is = idle refl in
    record {
      pairs = [];
      through = subst (λ e. Through Tells start [] e) (sym is.0) still;
      holds = subst (λ n. IsWritten db old n [] []) (sym is.1) (written-none db old);
    }
takes-written (b ∷ bytes) fits idle took = record { pairs = took.pairs; through = took.through; holds = one fits (λ e. absurd (cc e)) took.holds }
