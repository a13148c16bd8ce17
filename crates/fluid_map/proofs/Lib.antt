mod Replays
mod Laid
mod Contents
