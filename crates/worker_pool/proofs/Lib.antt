mod EndingLaws
mod FillingLaws
mod RoundLaws
mod RunLaws
mod VisitLaws
mod WordLaws
