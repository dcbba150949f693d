-- `expressions::read_plain` meets its contract: a law for each kind. Assumes nothing.
use Rattle.std.proofs.Common.{◌≡◌, refl, ap}
use Rattle.expressions.specs.Kinds.{kind_number}
use Rattle.expressions.specs.declared.Kind.{Kind}
use Rattle.expressions.specs.declared.Kind.TheVariants.{Always, Not, All, Source, Port, Destination, Protocol, Service, Unread}
use Rattle.expressions.proofs.ByKind.{is_always, is_source, is_too_many, is_port, is_destination, is_protocol, is_service, is_unread}
use Rattle.expressions.proofs.read_plain.Goals as goal

pub returns-in-Source : goal.returns-in-Source
returns-in-Source c =
    rw c.at.ensures (is_too_many _ _ _ _ _ c.requires.stands (ap kind_number c.in-Source.is) c.if-sources-ge-SOURCES.true)

pub returns-in-Source-2 : goal.returns-in-Source-2
returns-in-Source-2 c =
    is_source _ _ _ _ _ c.requires.stands (ap kind_number c.in-Source.is) c.if-sources-ge-SOURCES.false _ c.read_two.ensures

pub returns-in-Port : goal.returns-in-Port
returns-in-Port c = is_port _ _ _ _ _ c.requires.stands (ap kind_number c.in-Port.is) _ c.read_one.ensures

pub returns-in-Destination : goal.returns-in-Destination
returns-in-Destination c =
    is_destination _ _ _ _ _ c.requires.stands (ap kind_number c.in-Destination.is) _ c.read_two-in-Destination.ensures

pub returns-in-Protocol : goal.returns-in-Protocol
returns-in-Protocol c =
    is_protocol _ _ _ _ _ c.requires.stands (ap kind_number c.in-Protocol.is) _ c.read_one-in-Protocol.ensures

pub returns-in-Service : goal.returns-in-Service
returns-in-Service c =
    is_service _ _ _ _ _ c.requires.stands (ap kind_number c.in-Service.is) _ c.read_two-in-Service.ensures

pub returns-in-Unread : goal.returns-in-Unread
returns-in-Unread c = is_unread _ _ _ _ _ c.requires.stands (ap kind_number c.in-Unread.is) _ c.read_one-in-Unread.ensures

-- no other kind is left
only_always : (k : Kind) → (k ≡ Not → ⊥) → (k ≡ All → ⊥) → (k ≡ Source → ⊥) → (k ≡ Port → ⊥) → (k ≡ Destination → ⊥) → (k ≡ Protocol → ⊥)
    → (k ≡ Service → ⊥) → (k ≡ Unread → ⊥) → kind_number k ≡ 0
only_always Always a b d e f g h i = refl
only_always Not a b d e f g h i = absurd (a refl)
only_always All a b d e f g h i = absurd (b refl)
only_always Source a b d e f g h i = absurd (d refl)
only_always Port a b d e f g h i = absurd (e refl)
only_always Destination a b d e f g h i = absurd (f refl)
only_always Protocol a b d e f g h i = absurd (g refl)
only_always Service a b d e f g h i = absurd (h refl)
only_always Unread a b d e f g h i = absurd (i refl)

pub returns-in_default : goal.returns-in_default
returns-in_default c =
    let d = c.in_default in
    let k = only_always _ c.requires.single c.requires.several d.not-Source d.not-Port d.not-Destination d.not-Protocol d.not-Service d.not-Unread in
    is_always _ _ _ _ _ c.requires.stands k
