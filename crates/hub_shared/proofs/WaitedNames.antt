-- The names of a wait as its session finds them, and the posts that it opens.
use Rattle.std.proofs.Common.{◌≡◌, ℕ, zero, suc, ◌+◌, ◌<◌, List, [], ◌∷◌, ◌++◌, length, take, get_or, Bool, true, false, Result, Ok, Err, IfErr, ◌⊎◌, inl, inr, refl, sym, ap, ◌∙◌, subst, arith}
use Rattle.std.proofs.lemmas.Grind.{common_steps}
use Rattle.std.proofs.lemmas.List.{append_assoc, take_more}
use Rattle.std.proofs.lemmas.List.Elements.{All-push, All-weaker}
use Rattle.std.proofs.lemmas.List.Quantifiers.{Any-push}
use Rattle.std.specs.Arc.{arc_value}
use Rattle.std.specs.List.{Any, AllZip}
use Rattle.std.specs.Result.{IsErrAnd}
use Rattle.hub_letters.specs.declared.want.Want.{Want}
use Rattle.hub_record.specs.declared.Kind.{Kind}
use Rattle.hub_record.specs.declared.Kind.TheVariants.{Plain, Service}
use Rattle.hub_fifodir.specs.declared.fifodir.Fifodir.{Fifodir}
use Rattle.hub_record.specs.declared.SubError.{SubError}
use Rattle.hub_record.specs.declared.SubError.TheVariants as sub
use Rattle.hub_requests.specs.Refusals.{refusal_of_sub}
use Rattle.hub_requests.specs.declared.reply.Refusal.{Refusal}
use Rattle.hub_fifodir.specs.Passes.{MayRefuseTicket, kind_of}
use Rattle.hub_wait.specs.declared.post.Post.{Post}
use Rattle.hub_wait.specs.Posts.{HasOpened}
use Rattle.hub_names.specs.declared.hub.Hub.{Hub}
use Rattle.hub_names.specs.declared.hub.Made.{Made}
use Rattle.hub_names.specs.declared.fifodirs.Fifodirs.{Fifodirs}
use Rattle.hub_names.specs.Fifodirs.{IsKeptAs, KeepsAll}
use Rattle.hub_shared.specs.Waits.{IsKnown, IsOfKind, AreFound, AreOpened, AreSeen, IsPostAt, ArePosts, IsPostRefused, IsRefusedAtName, IsWaitRefused, MayRefusePost}

Any-weaker : {X : Type 0} (P Q : X → Type 0) → ((x : X) → P x → Q x) → (xs : List X) → Any P xs → Any Q xs
Any-weaker P Q f xs (k, x, within, at, p) = (k, x, within, at, f x p)

Any-then : {X : Type 0} (P : X → Type 0) (xs : List X) (y : X) → Any P xs → Any P (xs ++ y ∷ [])
Any-then P xs y (k, x, within, at, p) = (k, x, grind (arith, common_steps), grind (arith, common_steps), p)

Any-here : {X : Type 0} (P : X → Type 0) (x : X) (xs : List X) → P x → Any P (x ∷ xs)
Any-here P x xs p = (0, x, omega arith, refl, p)

Any-there : {X : Type 0} (P : X → Type 0) (y : X) (xs : List X) → Any P xs → Any P (y ∷ xs)
Any-there P y xs (k, x, within, at, p) = (suc k, x, omega (arith, within), at, p)

Any-cases : {X : Type 0} (P : X → Type 0) (y : X) (xs : List X) → Any P (y ∷ xs) → P y ⊎ Any P xs
Any-cases P y xs (zero, x, within, at, p) = inl (subst P (sym at) p)
Any-cases P y xs (suc k, x, within, at, p) = inr (k, x, omega (arith, within), at, p)

known_still : (hub : Hub) (old new : Fifodirs) → KeepsAll hub old new → (name : List ℕ) → IsKnown old name → IsKnown new name
known_still hub old new keeps name (j, at) = (j, keeps.each name j at)

of_kind_still : (hub : Hub) (old new : Fifodirs) → KeepsAll hub old new → (kind : Kind) (name : List ℕ) → IsOfKind old kind name → IsOfKind new kind name
of_kind_still hub old new keeps kind name f = record { joined = f.joined; kept_is = keeps.each name f.joined f.kept_is; of_kind = f.of_kind }

known_of_kind : (fs : Fifodirs) (kind : Kind) (name : List ℕ) → IsOfKind fs kind name → IsKnown fs name
known_of_kind fs kind name f = (f.joined, f.kept_is)

-- what was seen of names holds still
pub seen_still : (hub : Hub) (old new : Fifodirs) → KeepsAll hub old new → (names : List (List ℕ)) (plain : Bool) → AreSeen old names plain → AreSeen new names plain
seen_still hub old new keeps names true (known, some) =
    (All-weaker (IsKnown old) (IsKnown new) (known_still hub old new keeps) names known, Any-weaker (IsOfKind old Plain) (IsOfKind new Plain) (of_kind_still hub old new keeps Plain) names some)
seen_still hub old new keeps names false each = All-weaker (IsOfKind old Service) (IsOfKind new Service) (of_kind_still hub old new keeps Service) names each

-- what was found by a name just now
pub of_kind_found : (fs : Fifodirs) (name : List ℕ) (found : Made) (dir : Fifodir) (kind : Kind) → IsKeptAs fs name found → dir ≡ arc_value found.dir → kind ≡ kind_of dir → IsOfKind fs kind name
of_kind_found fs name found dir kind at is of = record { joined = at.joined; kept_is = at.kept_is; of_kind = sym (of ∙ ap kind_of (is ∙ at.dir)) }

-- one name more, of a plain fifodir
plain_more : (fs : Fifodirs) (names : List (List ℕ)) (name : List ℕ) (plain : Bool) → AreSeen fs names plain → IsOfKind fs Plain name → AreSeen fs (names ++ name ∷ []) true
plain_more fs names name true (known, some) f =
    (All-push (IsKnown fs) names name known (known_of_kind fs Plain name f), Any-push (IsOfKind fs Plain) names name f)
plain_more fs names name false each f =
    let known = All-weaker (IsOfKind fs Service) (IsKnown fs) (known_of_kind fs Service) names each in
    (All-push (IsKnown fs) names name known (known_of_kind fs Plain name f), Any-push (IsOfKind fs Plain) names name f)

-- one name more, of a service
service_more : (fs : Fifodirs) (names : List (List ℕ)) (name : List ℕ) (plain : Bool) → AreSeen fs names plain → IsOfKind fs Service name → AreSeen fs (names ++ name ∷ []) plain
service_more fs names name true (known, some) f =
    (All-push (IsKnown fs) names name known (known_of_kind fs Service name f), Any-then (IsOfKind fs Plain) names name some)
service_more fs names name false each f = All-push (IsOfKind fs Service) names name each f

-- ---- posts

pub AllZip-push : {X Y : Type 0} (R : X → Y → Type 0) (xs : List X) (ys : List Y) (x : X) (y : Y) → AllZip R xs ys → R x y → AllZip R (xs ++ x ∷ []) (ys ++ y ∷ [])
AllZip-push R [] [] x y each r = (r, tt)
AllZip-push R [] (b ∷ ys) x y each r = absurd each
AllZip-push R (a ∷ xs) [] x y each r = absurd each
AllZip-push R (a ∷ xs) (b ∷ ys) x y each r = (each.0, AllZip-push R xs ys x y each.1 r)

AllZip-weaker : {X Y : Type 0} (R S : X → Y → Type 0) → ((x : X) (y : Y) → R x y → S x y) → (xs : List X) (ys : List Y) → AllZip R xs ys → AllZip S xs ys
AllZip-weaker R S f [] [] each = tt
AllZip-weaker R S f [] (y ∷ ys) each = absurd each
AllZip-weaker R S f (x ∷ xs) [] each = absurd each
AllZip-weaker R S f (x ∷ xs) (y ∷ ys) each = (f x y each.0, AllZip-weaker R S f xs ys each.1)

found_still : (hub : Hub) (old new : Fifodirs) → KeepsAll hub old new → (name : List ℕ) (made : Made) → IsKeptAs old name made → IsKeptAs new name made
found_still hub old new keeps name made at = record { joined = at.joined; kept_is = keeps.each name at.joined at.kept_is; dir = at.dir; notifies = at.notifies }

-- one fifodir more
found_more : (hub : Hub) (old new : Fifodirs) (names : List (List ℕ)) (found : List Made) (name : List ℕ) (made : Made)
    → KeepsAll hub old new → AreFound old names found → IsKeptAs new name made → AreFound new (names ++ name ∷ []) (found ++ made ∷ [])
found_more hub old new names found name made keeps each at =
    AllZip-push (IsKeptAs new) names found name made (AllZip-weaker (IsKeptAs old) (IsKeptAs new) (found_still hub old new keeps) names found each) at

-- a post at the fifodir that is kept under the name
post_found : (fs : Fifodirs) (want : Want) (name : List ℕ) (found : Made) (post : Post) → IsKeptAs fs name found → HasOpened (arc_value found.dir) want found.notifies post → IsPostAt fs want name post
post_found fs want name found post at opened = record {
  joined = at.joined;
  kept_is = at.kept_is;
  opened = subst (λ (b : Bool). HasOpened (arc_value at.joined.found.dir) want b post) at.notifies (subst (λ (dir : Fifodir). HasOpened dir want found.notifies post) at.dir opened);
}

pub posts_found : (fs : Fifodirs) (want : Want) (names : List (List ℕ)) (found : List Made) (posts : List Post) → AreFound fs names found → AreOpened want found posts → ArePosts fs want names posts
posts_found fs want [] [] [] at opened = tt
posts_found fs want [] [] (p ∷ ps) at opened = absurd opened
posts_found fs want [] (f ∷ found) posts at opened = absurd at
posts_found fs want (n ∷ names) [] posts at opened = absurd at
posts_found fs want (n ∷ names) (f ∷ found) [] at opened = absurd opened
posts_found fs want (n ∷ names) (f ∷ found) (p ∷ ps) at opened = (post_found fs want n f p at.0 opened.0, posts_found fs want names found ps at.1 opened.1)

-- ---- a post that was refused

refusing_found : (fs : Fifodirs) (error : SubError) (name : List ℕ) (found : Made) → IsKeptAs fs name found → MayRefuseTicket (arc_value found.dir) error → MayRefusePost fs error name
refusing_found fs error name found at refuses =
    record { joined = at.joined; kept_is = at.kept_is; refuses = subst (λ (dir : Fifodir). MayRefuseTicket dir error) at.dir refuses }

none_refuses : {X : Type 0} (P : X → Type 0) → Any P [] → ⊥
none_refuses P (k, x, within, at, p) = omega (arith, within)

refused_found : (fs : Fifodirs) (error : SubError) (names : List (List ℕ)) (found : List Made) → AreFound fs names found → Any (λ made. MayRefuseTicket (arc_value made.dir) error) found
    → Any (MayRefusePost fs error) names
refused_found fs error [] [] at some = absurd (none_refuses (λ made. MayRefuseTicket (arc_value made.dir) error) some)
refused_found fs error [] (f ∷ found) at some = absurd at
refused_found fs error (n ∷ names) [] at some = absurd at
refused_found fs error (n ∷ names) (f ∷ found) at some =
    elim (Any-cases (λ made. MayRefuseTicket (arc_value made.dir) error) f found some) [
      | inl here ↦ Any-here (MayRefusePost fs error) n names (refusing_found fs error n f at.0 here)
      | inr there ↦ Any-there (MayRefusePost fs error) n names (refused_found fs error names found at.1 there)
    ]

refused_at_name : (fs : Fifodirs) (names : List (List ℕ)) (found : List Made) (refusal : Refusal) → AreFound fs names found → IsPostRefused found refusal → IsRefusedAtName fs names refusal
refused_at_name fs names found refusal at (error, is, some) = (error, is, refused_found fs error names found at some)

-- a fifodir refuses with one of its four reasons
refused_so : (hub : Hub) (fs : Fifodirs) (names : List (List ℕ)) (error : SubError) → IsRefusedAtName fs names (refusal_of_sub error) → AreSeen fs names false
    → IsWaitRefused hub fs names (refusal_of_sub error)
refused_so hub fs names sub.Closed at seen = (at, seen)
refused_so hub fs names sub.Many at seen = (at, seen)
refused_so hub fs names sub.Spent at seen = (at, seen)
refused_so hub fs names sub.Memory at seen = tt

pub wait_refused : (hub : Hub) (fs : Fifodirs) (names : List (List ℕ)) (found : List Made) (refusal : Refusal) → AreFound fs names found → IsPostRefused found refusal → AreSeen fs names false
    → IsWaitRefused hub fs names refusal
wait_refused hub fs names found refusal at refused seen =
    let all = refused_at_name fs names found refusal at refused in
    let is = refused.1 in
    subst (IsWaitRefused hub fs names) (sym is) (refused_so hub fs names refused.0 (subst (IsRefusedAtName fs names) is all) seen)

-- the next of those that were found
pub next_found : (found before rest after : List Made) (made : Made) → found ≡ before ++ rest → rest ≡ made ∷ after → found ≡ before ++ made ∷ after
next_found found before rest after made is next = is ∙ ap (λ (ms : List Made). before ++ ms) next

pub next_taken : (found before rest after : List Made) (made : Made) → found ≡ before ++ rest → rest ≡ made ∷ after → found ≡ (before ++ made ∷ []) ++ after
next_taken found before rest after made is next = next_found found before rest after made is next ∙ sym (append_assoc before (made ∷ []) after)

-- one of the fifodirs that were found refuses, behind those that gave a post
pub one_refuses : (before rest found : List Made) (made : Made) (error : SubError) → found ≡ before ++ made ∷ rest → MayRefuseTicket (arc_value made.dir) error
    → Any (λ made. MayRefuseTicket (arc_value made.dir) error) found
one_refuses [] rest found made error is refuses =
    subst (Any (λ m. MayRefuseTicket (arc_value m.dir) error)) (sym is) (Any-here (λ m. MayRefuseTicket (arc_value m.dir) error) made rest refuses)
one_refuses (b ∷ before) rest found made error is refuses =
    subst (Any (λ m. MayRefuseTicket (arc_value m.dir) error)) (sym is)
    (Any-there (λ m. MayRefuseTicket (arc_value m.dir) error) b (before ++ made ∷ rest) (one_refuses before rest (before ++ made ∷ rest) made error refl refuses))

pub post_refused : {A : Type 0} (found : List Made) (error : SubError) (result : Result A Refusal) → IsErrAnd result (λ r. r ≡ refusal_of_sub error)
    → Any (λ made. MayRefuseTicket (arc_value made.dir) error) found → IfErr result (IsPostRefused found)
post_refused found error (Ok a) is some = absurd is
post_refused found error (Err r) is some = (error, is, some)

-- ---- the next name, which was found just now

module _ (hub : Hub) (old new : Fifodirs) (keeps : KeepsAll hub old new) (names : List (List ℕ)) (i : ℕ) (name : List ℕ) (inside : i < length names) (is : name ≡ get_or names i name) where
  with_next : take i names ++ name ∷ [] ≡ take (i + 1) names
  with_next = ap (λ (n : List ℕ). take i names ++ n ∷ []) is ∙ sym (take_more names i name inside)

  pub seen_plain : (plain : Bool) → AreSeen old (take i names) plain → IsOfKind new Plain name → AreSeen new (take (i + 1) names) true
  seen_plain plain seen f = subst (λ (ns : List (List ℕ)). AreSeen new ns true) with_next
      (plain_more new (take i names) name plain (seen_still hub old new keeps (take i names) plain seen) f)

  pub seen_service : (plain : Bool) → AreSeen old (take i names) plain → IsOfKind new Service name → AreSeen new (take (i + 1) names) plain
  seen_service plain seen f = subst (λ (ns : List (List ℕ)). AreSeen new ns plain) with_next
      (service_more new (take i names) name plain (seen_still hub old new keeps (take i names) plain seen) f)

  pub found_next : (found : List Made) (made : Made) → AreFound old (take i names) found → IsKeptAs new name made → AreFound new (take (i + 1) names) (found ++ made ∷ [])
  found_next found made each at = subst (λ (ns : List (List ℕ)). AreFound new ns (found ++ made ∷ [])) with_next
      (found_more hub old new (take i names) found name made keeps each at)
