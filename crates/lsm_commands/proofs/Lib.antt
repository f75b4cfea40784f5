mod StatusLaws
mod NoteLaws
mod ComparedLaws
