-- What is read, or not.
use Rattle.std.proofs.Common.{◌≡◌, ℕ, Option, Some, None, Ok, Err, refl, subst}
use Rattle.std.specs.Prelude.{Result, IfOk, IsOkAnd, IfNone, IfSome}
use Rattle.std.specs.Option.{option_map, IsSomeAnd, SomeIff}
use Rattle.std.specs.Result.{result_ok}

pub some_is : {T : Type 0} (o : Option T) (t : T) (P : T → Type 0) → o ≡ Some t → IfSome o P → P t
some_is {T} o t P e found = subst (λ (o : Option T). IfSome o P) e found

pub none_is : {T : Type 0} (o : Option T) (P : Type 0) → o ≡ None → IfNone o P → P
none_is {T} o P e found = subst (λ (o : Option T). IfNone o P) e found

pub some_and : {T : Type 0} (o : Option T) (t : T) (P : T → Type 0) → o ≡ Some t → IsSomeAnd o P → P t
some_and {T} o t P e found = subst (λ (o : Option T). IsSomeAnd o P) e found

pub none_and : {T : Type 0} (o : Option T) (P : T → Type 0) → o ≡ None → IsSomeAnd o P → ⊥
none_and {T} o P e found = subst (λ (o : Option T). IsSomeAnd o P) e found

pub mapped : {X Y : Type 0} (f : X → Y) (o : Option X) (x : X) (y : Y) → o ≡ Some x → option_map f o ≡ Some y → f x ≡ y
mapped f (Some z) x y is e = cc
mapped f None x y is e = cc

pub not_mapped : {X Y : Type 0} (f : X → Y) (o : Option X) (y : Y) → o ≡ None → option_map f o ≡ Some y → ⊥
not_mapped f (Some z) y is e = cc
not_mapped f None y is e = cc

-- where nothing is read nothing is spelled
pub none_read : {T E X : Type 0} (read : Result (Option T) E) (Spells : ℕ → X → Type 0) (Is : ℕ → X → T → Type 0)
    → ((at : ℕ) (x : X) → Spells at x → IfOk read (λ o. IsSomeAnd o (Is at x))) → IfOk read (λ o. IfNone o ((at : ℕ) (x : X) → Spells at x → ⊥))
none_read (Ok (Some t)) Spells Is only = tt
none_read (Ok None) Spells Is only = λ at x s. only at x s
none_read (Err e) Spells Is only = tt

-- what holds of what is read
pub if_read : {T E : Type 0} (read : Result (Option T) E) (P Q : T → Type 0) → ((t : T) → P t → Q t) → IfOk read (λ o. IfSome o P) → IfOk read (λ o. IfSome o Q)
if_read (Ok (Some t)) P Q more h = more t h
if_read (Ok None) P Q more h = tt
if_read (Err e) P Q more h = tt

pub some_more : {T : Type 0} (o : Option T) (P Q : T → Type 0) → ((t : T) → P t → Q t) → IfSome o P → IfSome o Q
some_more (Some t) P Q more h = more t h
some_more None P Q more h = tt

pub nothing_read : {T : Type 0} (o : Option T) (P : T → Type 0) → IfSome o P → ((t : T) → P t → ⊥) → o ≡ None
nothing_read (Some t) P h none = absurd (none t h)
nothing_read None P h none = refl

pub some_iff : {T : Type 0} (o : Option T) (P : Type 0) (v : T) → SomeIff o P v → P → o ≡ Some v
some_iff (Some t) P v h p = let same = h.1 in cc
some_iff None P v h p = absurd (h p)

-- ---- what is read with no reason why not

pub ok_found : {T E : Type 0} (read : Result T E) (o : Option T) (P : T → Type 0) → o ≡ result_ok read → IfOk read P → IfSome o P
ok_found (Ok t) o P e found = rw e found
ok_found (Err why) o P e found = rw e tt

pub ok_only : {T E : Type 0} (read : Result T E) (o : Option T) (t : T) → o ≡ result_ok read → IsOkAnd read (λ found. found ≡ t) → o ≡ Some t
ok_only (Ok found) o t e same = cc
ok_only (Err why) o t e same = absurd same
