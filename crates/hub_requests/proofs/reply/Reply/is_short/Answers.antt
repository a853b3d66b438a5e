use Rattle.std.proofs.Common.{◌≤◌, length, Bool, true, false, ap, length-append, arith}
use Rattle.std.specs.Fmt.{decimal}
use Rattle.hub_record.specs.declared.Kind as kinds
use Rattle.hub_record.specs.declared.Kind.TheVariants as kind
use Rattle.hub_record.specs.declared.limits.Policy.{Policy}
use Rattle.hub_record.specs.declared.limits.Policy.TheVariants.{Hold, Evict}
use Rattle.hub_requests.specs.Texts.{openness, text_of_flag, word_of_kind, word_of_policy}
use Rattle.hub_requests.proofs.reply.Reply.is_short.Goals as goal

short_openness : (closed : Bool) → length (openness closed) ≤ 6
short_openness true = omega arith
short_openness false = omega arith

pub returns-in-State : goal.returns-in-State
returns-in-State c =
    let number = c.number_is_short-in-State.ensures in
    let same = ap (λ n. length (decimal n)) c.code.ensures.value in
    let code = c.number_is_short-in-State-2.ensures in
    let closed = short_openness c.in-State.status.closed in
    rw c.in-State.is (simp (length-append) (omega arith))

short_kind : (k : kinds.Kind) → length (word_of_kind k) ≤ 3
short_kind kind.Plain = omega arith
short_kind kind.Service = omega arith

short_flag : (flag : Bool) → length (text_of_flag flag) ≤ 1
short_flag true = omega arith
short_flag false = omega arith

short_policy : (policy : Policy) → length (word_of_policy policy) ≤ 5
short_policy Hold = omega arith
short_policy Evict = omega arith

pub returns-in-About : goal.returns-in-About
returns-in-About c =
    let about = c.in-About.about in
    let kind = short_kind about.kind in
    let flag = short_flag about.notifies in
    let policy = short_policy about.policy in
    let waiting = c.number_is_short-in-About.ensures in
    let total = c.number_is_short-in-About-2.ensures in
    let subscriptions = c.number_is_short-in-About-3.ensures in
    let publishers = c.number_is_short-in-About-4.ensures in
    let pending = c.number_is_short-in-About-5.ensures in
    rw c.in-About.is (simp (length-append) (omega arith))
