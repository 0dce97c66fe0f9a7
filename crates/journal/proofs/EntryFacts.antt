-- What entries may make of a plain state: its settings, and all else of it.
use Rattle.std.proofs.Common.{◌≡◌, ◌∙◌, ◌∷◌, ◌==◌, ◌||◌, ◌<◌, ◌+◌, ℕ, zero, suc, Bool, true, false, List, [], ap, refl}
use Rattle.std.proofs.Common.{sym, subst, fold, take, length, get_or, arith, inl, inr}
use Rattle.std.proofs.lemmas.Bool.{eq-eqb, eqb-true, false≢true, or_left, or_right}
use Rattle.ufs_spec.specs.Commands.{RpmbWrite, SetBoot, SetKey, SetPermanent, Write, Zero}
use Rattle.ufs_spec.specs.Plain.{Plain, apply}
use Rattle.journal.specs.Entries.{Accepted, CanCome, CanFollow, Doubted, IsAfter, Noted, Refused, boot_shown}
use Rattle.journal.specs.Entries.{permanent_shown, same_flag, surely, surely_after}
use Rattle.journal.specs.declared.entries.Setting.TheVariants as setting

-- ## One entry more

-- one entry more of a list that is folded
fold_next : {A B : Type 0} (f : A → B → A) (a : A) (xs : List B) (i : ℕ) (d : B) → i < length xs →
    fold f a (take (suc i) xs) ≡ f (fold f a (take i xs)) (get_or xs i d)
fold_next f a [] i d lt = absurd (omega arith)
fold_next f a (x ∷ xs) zero d lt = refl
fold_next f a (x ∷ xs) (suc i) d lt = fold_next f (f a x) xs i d (omega (arith, lt))

pub fold_more : {A B : Type 0} (f : A → B → A) (a : A) (xs : List B) (i : ℕ) (d : B) → i < length xs →
    fold f a (take (i + 1) xs) ≡ f (fold f a (take i xs)) (get_or xs i d)
fold_more {A} {B} f a xs i d lt =
    let next : i + 1 ≡ suc i = omega arith in
    ap (λ (j : ℕ). fold f a (take j xs)) next ∙ fold_next f a xs i d lt

-- an entry of a list may come after the ones before it, if each may
pub come_at : (p : Plain) (es : List Noted) (i : ℕ) (d : Noted) → CanFollow p es → i < length es →
    CanCome (surely_after p (take i es)) (get_or es i d)
come_at p [] i d h lt = absurd (omega arith)
come_at p (e ∷ es) zero d h lt = h.0
come_at p (e ∷ es) (suc i) d h lt = come_at (surely p e) es i d h.1 (omega (arith, lt))

-- ## Settings have no part in anything else

-- the plain state with other settings
abbrev pub with_settings : ℕ → Bool → Plain → Plain
with_settings boot flag p = record p { boot = boot; permanent = flag }

-- whatever settings there were before, all else is the same after entries
pub else_same : (es : List Noted) (p : Plain) (b b' : ℕ) (f f' : Bool) →
    with_settings b f (surely_after (with_settings b' f' p) es) ≡ with_settings b f (surely_after p es)
else_same [] p b b' f f' = refl
else_same (Accepted (Write unit address blocks) ∷ es) p b b' f f' =
    else_same es (apply p (Write unit address blocks)) b b' f f'
else_same (Accepted (Zero unit address count) ∷ es) p b b' f f' =
    else_same es (apply p (Zero unit address count)) b b' f f'
else_same (Accepted (SetKey region bytes) ∷ es) p b b' f f' =
    else_same es (apply p (SetKey region bytes)) b b' f f'
else_same (Accepted (RpmbWrite region address bytes) ∷ es) p b b' f f' =
    else_same es (apply p (RpmbWrite region address bytes)) b b' f f'
else_same (Accepted (SetBoot x) ∷ es) p b b' f f' =
    else_same es p b x f f' ∙ sym (else_same es p b x f p.permanent)
else_same (Accepted SetPermanent ∷ es) p b b' f f' =
    else_same es p b b' f true ∙ sym (else_same es p b p.boot f true)
else_same (Doubted s ∷ es) p b b' f f' = else_same es p b b' f f'
else_same (Refused ∷ es) p b b' f f' = else_same es p b b' f f'

-- ## Settings that may be there

-- whether the boot setting may be there after entries, if it may before
abbrev pub boot_after : ℕ → Bool → List Noted → Bool
boot_after b shown es = fold (boot_shown b) shown es

-- the same for fPermanentWPEn
abbrev pub permanent_after : Bool → Bool → List Noted → Bool
permanent_after f shown es = fold (permanent_shown f) shown es

or_more : (s t x : Bool) → (s ≡ true → t ≡ true) → (s || x) ≡ true → (t || x) ≡ true
or_more true t x h e = or_left t x (h refl)
or_more false t x h e = or_right t x e

-- what may be there if less may before, may be there if more may
boot_grows : (es : List Noted) (b : ℕ) (s t : Bool) → (s ≡ true → t ≡ true) → boot_after b s es ≡ true →
    boot_after b t es ≡ true
boot_grows [] b s t h e = h e
boot_grows (Accepted (Write unit address blocks) ∷ es) b s t h e = boot_grows es b s t h e
boot_grows (Accepted (Zero unit address count) ∷ es) b s t h e = boot_grows es b s t h e
boot_grows (Accepted (SetKey region bytes) ∷ es) b s t h e = boot_grows es b s t h e
boot_grows (Accepted (RpmbWrite region address bytes) ∷ es) b s t h e = boot_grows es b s t h e
boot_grows (Accepted (SetBoot x) ∷ es) b s t h e = e
boot_grows (Accepted SetPermanent ∷ es) b s t h e = boot_grows es b s t h e
boot_grows (Doubted (setting.Boot x) ∷ es) b s t h e =
    boot_grows es b (s || (x == b)) (t || (x == b)) (or_more s t (x == b) h) e
boot_grows (Doubted setting.Permanent ∷ es) b s t h e = boot_grows es b s t h e
boot_grows (Refused ∷ es) b s t h e = boot_grows es b s t h e

permanent_grows : (es : List Noted) (f : Bool) (s t : Bool) → (s ≡ true → t ≡ true) →
    permanent_after f s es ≡ true → permanent_after f t es ≡ true
permanent_grows [] f s t h e = h e
permanent_grows (Accepted (Write unit address blocks) ∷ es) f s t h e = permanent_grows es f s t h e
permanent_grows (Accepted (Zero unit address count) ∷ es) f s t h e = permanent_grows es f s t h e
permanent_grows (Accepted (SetKey region bytes) ∷ es) f s t h e = permanent_grows es f s t h e
permanent_grows (Accepted (RpmbWrite region address bytes) ∷ es) f s t h e = permanent_grows es f s t h e
permanent_grows (Accepted (SetBoot x) ∷ es) f s t h e = permanent_grows es f s t h e
permanent_grows (Accepted SetPermanent ∷ es) f s t h e = e
permanent_grows (Doubted (setting.Boot x) ∷ es) f s t h e = permanent_grows es f s t h e
permanent_grows (Doubted setting.Permanent ∷ es) f s t h e =
    permanent_grows es f (s || f) (t || f) (or_more s t f h) e
permanent_grows (Refused ∷ es) f s t h e = permanent_grows es f s t h e

same_is : (x y : Bool) → same_flag x y ≡ true → x ≡ y
same_is true true e = refl
same_is true false e = absurd (false≢true e)
same_is false true e = absurd (false≢true e)
same_is false false e = refl

flag_same : (x : Bool) → same_flag x x ≡ true
flag_same true = refl
flag_same false = refl

-- ## Each plain state that the entries may make

-- the state that the entries make for sure, with settings that may be there, is one that they may make
abbrev pub IsMade : List Noted → Plain → ℕ → Bool → Type 0
IsMade es p b f =
    boot_after b (p.boot == b) es ≡ true → permanent_after f (same_flag p.permanent f) es ≡ true →
    IsAfter p es (with_settings b f (surely_after p es))

-- a setting in doubt is there
taken : (es : List Noted) (p : Plain) (b x : ℕ) (f y : Bool) → IsMade es (with_settings x y p) b f →
    boot_after b (x == b) es ≡ true → permanent_after f (same_flag y f) es ≡ true →
    IsAfter (with_settings x y p) es (with_settings b f (surely_after p es))
taken es p b x f y made boot flag =
    subst (IsAfter (with_settings x y p) es) (else_same es p b x f y) (made boot flag)

-- a boot setting in doubt is there if the one before it cannot be
boot_made : (es : List Noted) (p : Plain) (b x : ℕ) (f : Bool) → ((q : Plain) → IsMade es q b f) →
    (s : Bool) → (p.boot == b) ≡ s → IsMade (Doubted (setting.Boot x) ∷ es) p b f
boot_made es p b x f all true e boot flag =
    (p, inl refl, all p (boot_grows es b ((p.boot == b) || (x == b)) (p.boot == b) (λ _. e) boot) flag)
boot_made es p b x f all false e boot flag = (
  apply p (SetBoot x),
  inr refl,
  taken es p b x f p.permanent (all (apply p (SetBoot x)))
      (subst (λ (s : Bool). boot_after b (s || (x == b)) es ≡ true) e boot) flag,
)

-- the same for fPermanentWPEn
permanent_made : (es : List Noted) (p : Plain) (b : ℕ) (f : Bool) → ((q : Plain) → IsMade es q b f) →
    (s : Bool) → same_flag p.permanent f ≡ s → IsMade (Doubted setting.Permanent ∷ es) p b f
permanent_made es p b f all true e boot flag = (
  p,
  inl refl,
  all p boot (permanent_grows es f (same_flag p.permanent f || f) (same_flag p.permanent f) (λ _. e) flag),
)
permanent_made es p b f all false e boot flag = (
  apply p SetPermanent,
  inr refl,
  taken es p b p.boot f true (all (apply p SetPermanent)) boot
      (subst (λ (s : Bool). permanent_after f (s || f) es ≡ true) e flag),
)

-- the state that entries make for sure, with settings that may be there, is one that they may make
pub made : (es : List Noted) (p : Plain) (b : ℕ) (f : Bool) → IsMade es p b f
made [] p b f boot flag =
    ap (λ (x : ℕ). record p { boot = x; permanent = f }) (sym (eqb-true p.boot b boot))
    ∙ ap (λ (y : Bool). record p { permanent = y }) (sym (same_is p.permanent f flag))
made (Accepted (Write unit address blocks) ∷ es) p b f boot flag =
    (apply p (Write unit address blocks), refl, made es (apply p (Write unit address blocks)) b f boot flag)
made (Accepted (Zero unit address count) ∷ es) p b f boot flag =
    (apply p (Zero unit address count), refl, made es (apply p (Zero unit address count)) b f boot flag)
made (Accepted (SetKey region bytes) ∷ es) p b f boot flag =
    (apply p (SetKey region bytes), refl, made es (apply p (SetKey region bytes)) b f boot flag)
made (Accepted (RpmbWrite region address bytes) ∷ es) p b f boot flag = (
  apply p (RpmbWrite region address bytes),
  refl,
  made es (apply p (RpmbWrite region address bytes)) b f boot flag,
)
made (Accepted (SetBoot x) ∷ es) p b f boot flag =
    (apply p (SetBoot x), refl, made es (apply p (SetBoot x)) b f boot flag)
made (Accepted SetPermanent ∷ es) p b f boot flag =
    (apply p SetPermanent, refl, made es (apply p SetPermanent) b f boot flag)
made (Doubted (setting.Boot x) ∷ es) p b f boot flag =
    boot_made es p b x f (λ (q : Plain). made es q b f) (p.boot == b) refl boot flag
made (Doubted setting.Permanent ∷ es) p b f boot flag =
    permanent_made es p b f (λ (q : Plain). made es q b f) (same_flag p.permanent f) refl boot flag
made (Refused ∷ es) p b f boot flag = (p, refl, made es p b f boot flag)

-- a state that the entries may make is the one that they make for sure, with settings that may be there
pub record IsSeen (es : List Noted) (p q : Plain) : Type 0 where
  pub rest : with_settings q.boot q.permanent (surely_after p es) ≡ q
  pub boot : boot_after q.boot (p.boot == q.boot) es ≡ true
  pub permanent : permanent_after q.permanent (same_flag p.permanent q.permanent) es ≡ true

-- more may be there than what is seen over settings of which one is another
boot_seen : (es : List Noted) (p q : Plain) (x : ℕ) → IsSeen es (apply p (SetBoot x)) q →
    IsSeen (Doubted (setting.Boot x) ∷ es) p q
boot_seen es p q x seen = record {
  rest = sym (else_same es p q.boot x q.permanent p.permanent) ∙ seen.rest;
  boot =
      boot_grows es q.boot (x == q.boot) ((p.boot == q.boot) || (x == q.boot))
      (or_right (p.boot == q.boot) (x == q.boot)) seen.boot;
  permanent = seen.permanent;
}

permanent_seen : (es : List Noted) (p q : Plain) → IsSeen es (apply p SetPermanent) q →
    IsSeen (Doubted setting.Permanent ∷ es) p q
permanent_seen es p q seen = record {
  rest = sym (else_same es p q.boot p.boot q.permanent true) ∙ seen.rest;
  boot = seen.boot;
  permanent =
      permanent_grows es q.permanent q.permanent (same_flag p.permanent q.permanent || q.permanent)
      (or_right (same_flag p.permanent q.permanent) q.permanent) seen.permanent;
}

-- a command that was accepted is no more than itself
pub seen : (es : List Noted) (p q : Plain) → IsAfter p es q → IsSeen es p q
seen [] p q h = subst (IsSeen [] p) (sym h) (record {
  rest = refl;
  boot = eq-eqb p.boot p.boot refl;
  permanent = flag_same p.permanent;
})
seen (Accepted (Write unit address blocks) ∷ es) p q (m, is, h) =
    let s = subst (λ (r : Plain). IsSeen es r q) is (seen es m q h) in
    record { rest = s.rest; boot = s.boot; permanent = s.permanent }
seen (Accepted (Zero unit address count) ∷ es) p q (m, is, h) =
    let s = subst (λ (r : Plain). IsSeen es r q) is (seen es m q h) in
    record { rest = s.rest; boot = s.boot; permanent = s.permanent }
seen (Accepted (SetKey region bytes) ∷ es) p q (m, is, h) =
    let s = subst (λ (r : Plain). IsSeen es r q) is (seen es m q h) in
    record { rest = s.rest; boot = s.boot; permanent = s.permanent }
seen (Accepted (RpmbWrite region address bytes) ∷ es) p q (m, is, h) =
    let s = subst (λ (r : Plain). IsSeen es r q) is (seen es m q h) in
    record { rest = s.rest; boot = s.boot; permanent = s.permanent }
seen (Accepted (SetBoot x) ∷ es) p q (m, is, h) =
    let s = subst (λ (r : Plain). IsSeen es r q) is (seen es m q h) in
    record { rest = s.rest; boot = s.boot; permanent = s.permanent }
seen (Accepted SetPermanent ∷ es) p q (m, is, h) =
    let s = subst (λ (r : Plain). IsSeen es r q) is (seen es m q h) in
    record { rest = s.rest; boot = s.boot; permanent = s.permanent }
seen (Doubted (setting.Boot x) ∷ es) p q (m, inl is, h) =
    let s = subst (λ (r : Plain). IsSeen es r q) is (seen es m q h) in
    record {
      rest = s.rest;
      boot =
          boot_grows es q.boot (p.boot == q.boot) ((p.boot == q.boot) || (x == q.boot))
          (or_left (p.boot == q.boot) (x == q.boot)) s.boot;
      permanent = s.permanent;
    }
seen (Doubted (setting.Boot x) ∷ es) p q (m, inr is, h) =
    boot_seen es p q x (subst (λ (r : Plain). IsSeen es r q) is (seen es m q h))
seen (Doubted setting.Permanent ∷ es) p q (m, inl is, h) =
    let s = subst (λ (r : Plain). IsSeen es r q) is (seen es m q h) in
    record {
      rest = s.rest;
      boot = s.boot;
      permanent =
          permanent_grows es q.permanent (same_flag p.permanent q.permanent)
          (same_flag p.permanent q.permanent || q.permanent)
          (or_left (same_flag p.permanent q.permanent) q.permanent) s.permanent;
    }
seen (Doubted setting.Permanent ∷ es) p q (m, inr is, h) =
    permanent_seen es p q (subst (λ (r : Plain). IsSeen es r q) is (seen es m q h))
seen (Refused ∷ es) p q (m, is, h) =
    let s = subst (λ (r : Plain). IsSeen es r q) is (seen es m q h) in
    record { rest = s.rest; boot = s.boot; permanent = s.permanent }
