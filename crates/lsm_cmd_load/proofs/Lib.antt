mod SweepLaws
mod LoadedLaws
mod RunLaws
