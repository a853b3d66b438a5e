-- One page of names more.
use Rattle.std.proofs.Common.{◌≡◌, ◌≢◌, ℕ, ◌+◌, List, [], ◌∷◌, ◌++◌, length, All, Bor, Bool, true, false, Result, Ok, Err, IfOk, refl, sym, ap, ◌∙◌, subst, arith, append-nil, append_assoc, length-append}
use Rattle.std.specs.List.{join_with_byte}
use Rattle.hub_requests.specs.Listings.{joined}
use Rattle.hub_requests.specs.Texts.{text_of}
use Rattle.hub_requests.specs.declared.request.Request.{Request}
use Rattle.hub_requests.specs.declared.request.Request.TheVariants as request
use Rattle.hub_requests.specs.declared.reply.Reply.{Reply}
use Rattle.hub_requests.specs.declared.reply.Reply.TheVariants as reply
use Rattle.hub_protocol.specs.Replies.{IsOfHub, IsShown, Shows}
use Rattle.hub_protocol.specs.Spelling.{IsName, fields_of, form_of, spelling}
use Rattle.hub_protocol.specs.declared.replies.BorrowedReply.{BorrowedReply}
use Rattle.hub_protocol.specs.declared.replies.BorrowedReply.TheVariants as shown
use Rattle.hub_protocol.proofs.FormLines.{fields_of-join}
use Rattle.hub_protocol.proofs.Visible.{visible_names}
use Rattle.hub_ask.specs.Asking.{IsAnswered}
use Rattle.hub_ask.specs.Streams.{IsHeard, IsReplied, Streams}
use Rattle.hub_look.specs.Tables.{AreListed, IsPagePut, IsPutOf, ListsNames}
use Rattle.hub_look.specs.declared.stop.Stop.{Stop}

-- the line that was heard is that of the reply
replied : (before after : Streams) (asked : Request) (line : List ℕ) (it : Reply) → IsHeard before after asked line → IsOfHub it → line ≡ text_of it → IsReplied before after asked it
replied before after asked line it heard of_hub spelled = record {
  of_hub = of_hub;
  answered = subst (IsAnswered before.sent after.sent before.had after.had (spelling (form_of asked))) spelled heard.answered;
  noted = heard.noted;
  faults = heard.faults;
}

-- ---- a page

names_back : (names : List (List ℕ)) (text : List ℕ) → text ≡ join_with_byte 32 names → All IsName names → text ≢ [] → names ≡ fields_of text
names_back [] text same all some = absurd (some same)
names_back (name ∷ names) text same all some = sym (ap fields_of same ∙ fields_of-join name names (visible_names (name ∷ names) all))

page_shown : (listed : Bor (List ℕ)) (it : Reply) → Shows (shown.Listed listed) it → IsOfHub it → listed.now ≢ [] → it ≡ reply.Listed (fields_of listed.now)
page_shown listed (reply.Listed names) same of_hub some = ap reply.Listed (names_back names listed.now same of_hub.sound some)
page_shown listed it same of_hub some = absurd same

none_shown : (it : Reply) → Shows shown.Nothing it → it ≡ reply.Nothing
none_shown reply.Nothing h = refl
none_shown it h = absurd h

pub replied_so : (before after : Streams) (asked : Request) (line : List ℕ) (read : BorrowedReply) (it : Reply) (h : IsShown line read) → IsHeard before after asked line → h.reply ≡ it → IsReplied before after asked it
replied_so before after asked line read it h heard same = replied before after asked line it heard (subst IsOfHub same h.of_hub) (h.spelled ∙ ap text_of same)

-- ---- the pages so far

abbrev pub AreListedOn : (before now : Streams) → (from : ℕ) → (pages : List (List (List ℕ))) → Type 0
AreListedOn before now from [] = now ≡ before
AreListedOn before now from (page ∷ pages) =
    (between : Streams) × IsReplied before between (request.Names from) (reply.Listed page) × AreListedOn between now (from + length page) pages

pub record IsListedSoFar (before now : Streams) (names : List (List ℕ)) : Type 0 where
  pub pages : List (List (List ℕ))
  pub listed : AreListedOn before now 0 pages
  pub all : names ≡ joined pages

joined_more : (pages : List (List (List ℕ))) (page : List (List ℕ)) → joined (pages ++ page ∷ []) ≡ joined pages ++ page
joined_more [] page = append-nil page
joined_more (p ∷ pages) page = ap (λ it. p ++ it) (joined_more pages page) ∙ sym (append_assoc p (joined pages) page)

next_place : (from : ℕ) (p : List (List ℕ)) (rest : List (List ℕ)) → from + length (p ++ rest) ≡ from + length p + length rest
next_place from p rest =
    let both = length-append p rest in
    omega (arith, both)

same_place : (from : ℕ) → from + 0 ≡ from
same_place from = omega arith

listed_more : (before now later : Streams) (from : ℕ) (pages : List (List (List ℕ))) (page : List (List ℕ))
    → AreListedOn before now from pages → IsReplied now later (request.Names (from + length (joined pages))) (reply.Listed page) → AreListedOn before later from (pages ++ page ∷ [])
listed_more before now later from [] page same more = (
  later,
  subst (λ n. IsReplied before later (request.Names n) (reply.Listed page)) (same_place from)
      (subst (λ it. IsReplied it later (request.Names (from + 0)) (reply.Listed page)) same more),
  refl,
)
listed_more before now later from (p ∷ pages) page h more = (
  h.0,
  h.1,
  listed_more h.0 now later (from + length p) pages page h.2 (subst (λ n. IsReplied now later (request.Names n) (reply.Listed page)) (next_place from p (joined pages)) more),
)

listed_all : (before now after : Streams) (from : ℕ) (pages : List (List (List ℕ)))
    → AreListedOn before now from pages → IsReplied now after (request.Names (from + length (joined pages))) reply.Nothing → AreListed before after from pages
listed_all before now after from [] same last =
    subst (λ n. IsReplied before after (request.Names n) reply.Nothing) (same_place from)
    (subst (λ it. IsReplied it after (request.Names (from + 0)) reply.Nothing) same last)
listed_all before now after from (p ∷ pages) h last =
    (h.0, h.1, listed_all h.0 now after (from + length p) pages h.2 (subst (λ n. IsReplied now after (request.Names n) reply.Nothing) (next_place from p (joined pages)) last))

-- ---- what the loop over replies does

pub none_listed : (before : Streams) → IsListedSoFar before before []
none_listed before = record { pages = []; listed = refl; all = refl }

-- a reply to the request for the names behind these is put there
pub page_put : (before after : Streams) (names grown : List (List ℕ)) (from : ℕ) (line : List ℕ) (read : BorrowedReply) (result : Result Bool Stop)
    → from ≡ length names → IsHeard before after (request.Names from) line → IsShown line read → IfOk result (IsPutOf read names grown) → IfOk result (IsPagePut before after names grown)
page_put before after names grown from line (shown.Listed listed) (Ok false) is heard shows put =
    let page = fields_of listed.now in (
      page,
      subst (λ n. IsReplied before after (request.Names n) (reply.Listed page)) is
          (replied_so before after (request.Names from) line (shown.Listed listed) (reply.Listed page) shows heard (page_shown listed shows.reply shows.shows shows.of_hub put.0)),
      put.1,
    )
page_put before after names grown from line shown.Nothing (Ok true) is heard shows put = (
  subst (λ n. IsReplied before after (request.Names n) reply.Nothing) is
      (replied_so before after (request.Names from) line shown.Nothing reply.Nothing shows heard (none_shown shows.reply shows.shows)),
  put,
)
page_put before after names grown from line read (Ok are_all) is heard shows put = absurd put
page_put before after names grown from line read (Err stop) is heard shows put = tt

place : (before now : Streams) (names : List (List ℕ)) (h : IsListedSoFar before now names) → length names ≡ 0 + length (joined h.pages)
place before now names h =
    let so : length names ≡ length (joined h.pages) = ap length h.all in
    omega (arith, so)

pub one_page_more : (before now later : Streams) (names grown : List (List ℕ)) (are_all : Bool)
    → IsListedSoFar before now names → IsPagePut now later names grown are_all → are_all ≡ false → IsListedSoFar before later grown
one_page_more before now later names grown false h put is =
    let page = put.0 in
    record {
      pages = h.pages ++ page ∷ [];
      listed = listed_more before now later 0 h.pages page h.listed (subst (λ n. IsReplied now later (request.Names n) (reply.Listed page)) (place before now names h) put.1);
      all = put.2 ∙ ap (λ it. it ++ page) h.all ∙ sym (joined_more h.pages page);
    }
one_page_more before now later names grown true h put is = absurd (cc)

pub all_pages : (before now after : Streams) (names grown : List (List ℕ)) (are_all : Bool)
    → IsListedSoFar before now names → IsPagePut now after names grown are_all → are_all ≡ true → ListsNames before after grown
all_pages before now after names grown true h put is = record {
  pages = h.pages;
  listed = listed_all before now after 0 h.pages h.listed (subst (λ n. IsReplied now after (request.Names n) reply.Nothing) (place before now names h) put.0);
  all = put.1 ∙ h.all;
}
all_pages before now after names grown false h put is = absurd (cc)
